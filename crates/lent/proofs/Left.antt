-- All that a call leaves as one equation, from its parts, and each part from it; and a test's answer as a word. Assumes nothing.
use mathlib.Core.Path.{◌≡◌, refl, ap}
use mathlib.Core.Bool.{Bool, true, false, false≢true}
use mathlib.Core.Logic.{◌↔◌}
use mathlib.Core.List.{List, [], ◌∷◌}
use Prim.Native.Nat.{ℕ, ◌≤◌}
use native.Mathlib.Omega.{arith}
use lib.ListN.{get_or}
use Rattle.lent.specs.Lent.{unless_refused, Left, left, leaves, leaves_both, word_of}

-- ---- from its parts: the number, and what is said of each slice by it
pub leaves_by : {r number : ℕ} {words : List ℕ} (new lent : List ℕ) → r ≡ number → words ≡ unless_refused r new lent → left r (words ∷ []) ≡ leaves number new lent
leaves_by new lent is one = rw (one, is)

pub leaves_both_by : {r number : ℕ} {words words' : List ℕ} (new lent more lent' : List ℕ) → r ≡ number → words ≡ unless_refused r new lent
    → words' ≡ unless_refused r more lent' → left r (words ∷ words' ∷ []) ≡ leaves_both number new lent more lent'
leaves_both_by new lent more lent' is one two = rw (one, two, is)

pub leaves_four_by : {r number : ℕ} {a b c d : List ℕ} (new lent new' lent' new'' lent'' new''' lent''' : List ℕ) → r ≡ number
    → a ≡ unless_refused r new lent → b ≡ unless_refused r new' lent' → c ≡ unless_refused r new'' lent'' → d ≡ unless_refused r new''' lent'''
    → left r (a ∷ b ∷ c ∷ d ∷ [])
    ≡ left number (unless_refused number new lent ∷ unless_refused number new' lent' ∷ unless_refused number new'' lent'' ∷ unless_refused number new''' lent''' ∷ [])
leaves_four_by new lent new' lent' new'' lent'' new''' lent''' is one two three four = rw (one, two, three, four, is)

pub left_by : {r number : ℕ} {words new : List ℕ} → r ≡ number → words ≡ new → left r (words ∷ []) ≡ left number (new ∷ [])
left_by is one = rw (one, is)

-- ---- each part
pub answer_of_lem : {a b : Left} → a ≡ b → a.answer ≡ b.answer
answer_of_lem same = ap (λ (l : Left). l.answer) same

pub slice_of : {a b : Left} (k : ℕ) → a ≡ b → get_or a.slices k [] ≡ get_or b.slices k []
slice_of k same = ap (λ (l : Left). get_or l.slices k []) same

-- ---- a test's answer
pub word_yes : (b : Bool) → (word_of b ≡ 1) ↔ (b ≡ true)
unfolding word_of
word_yes true = (λ e. refl, λ e. refl)
word_yes false = (λ e. let no : ⊥ = omega (arith, e) in absurd no, λ e. absurd (false≢true e))

pub word_no : (b : Bool) → b ≡ false → word_of b ≡ 0
unfolding word_of
word_no b e = rw e

pub word_few : (b : Bool) → word_of b ≤ 1
unfolding word_of
word_few true = omega arith
word_few false = omega arith
