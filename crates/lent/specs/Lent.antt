-- What a call is lent and what it leaves, as document 01, "Refused by the input", says of every call.
-- Assumes nothing.
use Rattle.std.specs.Prelude.{◌≡◌, Bool, cond, List, [], ◌∷◌, ◌++◌, ℕ, zero, suc, eqb, ltb, length, drop, get_or}

-- the number that a list of words gives worker w
abbrev pub at : List ℕ → ℕ → ℕ
at words w = get_or words w 0

-- "The smallest number that applies is given; each condition presumes the lower ones passed": the first number that is not 0
unfoldable pub or_else : ℕ → ℕ → ℕ
or_else first second = cond (eqb first 0) second first

-- "the earliest in the list deciding" (02, note 10): of f 0, .., f (n - 1) the first that is not 0, and 0 where there is none
unfoldable pub first_of : (ℕ → ℕ) → ℕ → ℕ
first_of f zero = 0
first_of f (suc n) = or_else (first_of f n) (f n)

-- 14: "fewer words lent than the call reads or writes"
unfoldable pub words_refusal : ℕ → ℕ → ℕ
words_refusal lent needed = cond (ltb lent needed) 14 0

-- 15: "scratch too short"
abbrev pub short_scratch : ℕ → ℕ → ℕ
short_scratch lent needed = cond (ltb lent needed) 15 0

-- "words past those named are untouched": the new words, then the rest of those lent
unfoldable pub onto : List ℕ → List ℕ → List ℕ
onto new lent = new ++ drop (length new) lent

-- "A refusal .. changes no lent word": the words after a call that returns this number
unfoldable pub unless_refused : ℕ → List ℕ → List ℕ → List ℕ
unless_refused refusal new lent = cond (eqb refusal 0) (onto new lent) lent

-- a refusal changes no word of scratch either; its "content after a success is free"
abbrev pub KeptIfRefused : ℕ → List ℕ → List ℕ → Type 0
KeptIfRefused refusal lent left = (refusal ≡ 0 → ⊥) → left ≡ lent

-- all that a call returns and leaves: its number, and each slice that it was lent to write, in the order of its parameters, as it is after
-- the call. Scratch is none of them: it is free after a success
pub record Left : Type 0 where
  pub answer : ℕ
  pub slices : List (List ℕ)

abbrev pub left : ℕ → List (List ℕ) → Left
left answer slices = record { answer = answer; slices = slices }

-- of a call that writes one slice, from its number, the new words and those lent; and of a call that writes two
abbrev pub leaves : ℕ → List ℕ → List ℕ → Left
leaves refusal new lent = left refusal (unless_refused refusal new lent ∷ [])

abbrev pub leaves_both : ℕ → List ℕ → List ℕ → List ℕ → List ℕ → Left
leaves_both refusal new lent more lent' = left refusal (unless_refused refusal new lent ∷ unless_refused refusal more lent' ∷ [])

-- a test's yes or no as a word: 1 for yes, 0 for no
unfoldable pub word_of : Bool → ℕ
word_of b = cond b 1 0
