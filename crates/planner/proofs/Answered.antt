-- The word of a test: that of a refused one does not matter, and that of any other is the first of the words. Assumes nothing.
use mathlib.Core.Path.{◌≡◌, refl}
use mathlib.Core.Bool.{Bool, true, false, cond}
use mathlib.Core.List.{List, [], ◌∷◌}
use Prim.Native.Nat.{ℕ}
use lib.Dec.{eqb}
use Rattle.lent.specs.Lent.{at, onto, unless_refused, word_of}
use Rattle.causality.specs.Calls.{yes_unless}

pub answered : (refusal : ℕ) (b : Bool) (lent : List ℕ)
    → unless_refused refusal (word_of (yes_unless refusal b) ∷ []) lent ≡ unless_refused refusal (word_of b ∷ []) lent
unfolding unless_refused yes_unless
answered refusal b lent = go (eqb refusal 0)
  where
    go : (t : Bool) → cond t (onto (word_of (cond t b false) ∷ []) lent) lent ≡ cond t (onto (word_of b ∷ []) lent) lent
    go true = refl
    go false = refl

pub first_word : (refusal word : ℕ) (lent words : List ℕ) → words ≡ unless_refused refusal (word ∷ []) lent → refusal ≡ 0 → at words 0 ≡ word
unfolding unless_refused onto
first_word refusal word lent words left none = rw (left, none)
