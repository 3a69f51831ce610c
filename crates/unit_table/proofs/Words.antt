-- A fault of some word, asked of the words in turn or of their places. Assumes nothing.
use mathlib.Core.Path.{◌≡◌, refl, sym, ◌∙◌, ap}
use mathlib.Core.Bool.{Bool, true, false, ◌||◌}
use mathlib.Core.List.{List, [], ◌∷◌}
use Prim.Native.Nat.{ℕ, zero, suc}
use lib.Dec.{ltb}
use lib.ListN.{length, get_or}
use Rattle.std.specs.List.{list_any}
use Rattle.ranges.specs.Fold.{any_below}
use Rattle.unit_table.specs.Table.{max_units, unit_fault}

or_regroup : (a b c : Bool) → ((a || b) || c) ≡ (a || (b || c))
or_regroup true b c = refl
or_regroup false b c = refl

or_nothing : (a : Bool) → (false || a) ≡ (a || false)
or_nothing true = refl
or_nothing false = refl

-- the first number asked first
any_front : (p : ℕ → Bool) (n : ℕ) → any_below p (suc n) ≡ (p 0 || any_below (λ k. p (suc k)) n)
unfolding any_below
any_front p zero = or_nothing (p 0)
any_front p (suc n) = ap (λ (b : Bool). b || p (suc n)) (any_front p n) ∙ or_regroup (p 0) (any_below (λ k. p (suc k)) n) (p (suc n))

any_place : (test : ℕ → Bool) (words : List ℕ) → list_any test words ≡ any_below (λ k. test (get_or words k 0)) (length words)
unfolding any_below
any_place test [] = refl
any_place test (w ∷ words) =
    ap (λ (b : Bool). test w || b) (any_place test words) ∙ sym (any_front (λ k. test (get_or (w ∷ words) k 0)) (length words))

-- a word outside 1 to 1,000
abbrev pub word_fault : ℕ → Bool
word_fault word = ltb word 1 || ltb max_units word

pub any_word : (words : List ℕ) → list_any word_fault words ≡ any_below (unit_fault words) (length words)
unfolding unit_fault
any_word words = any_place word_fault words
