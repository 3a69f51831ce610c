-- The mark of a withdrawn checkpoint. Assumes nothing.
use mathlib.Core.Path.{◌≡◌, refl, sym, ◌∙◌}
use mathlib.Core.Bool.{Bool, true, false, cond, ◌&&◌, false≢true}
use Prim.Native.Nat.{ℕ, ◌+◌, ◌%◌, ◌<◌}
use native.Mathlib.Omega.{arith}
use borrow.Author.Tests.{leb-true, leb-false, le-leb, lt-leb}
use lib.Dec.{leb}
use Rattle.records.specs.declared.Checkpoint.{Checkpoint}
use Rattle.records.specs.Forms.{marks_withdrawn}
use Rattle.records.specs.Mark.{top_bit, has_mark, without_mark, with_mark}

module _ (form word : ℕ) where
  -- in a form with the mark an identifier is below the mark
  pub identifier_low : marks_withdrawn form ≡ true → without_mark form word < top_bit
  unfolding without_mark
  identifier_low e = rw e (omega arith)

  -- a word that is read is written back
  pub word_back : (index : ℕ) → word < 4294967296
      → with_mark (record { index = index; identifier = without_mark form word; withdrawn = has_mark form word }) ≡ word
  unfolding with_mark has_mark without_mark
  word_back index small = go (marks_withdrawn form) (leb top_bit word) refl
    where
      go : (marks top : Bool) → leb top_bit word ≡ top → cond (marks && top) (cond marks (word % top_bit) word + top_bit) (cond marks (word % top_bit) word) ≡ word
      go false top e = refl
      go true true e = let l = leb-true top_bit word e in omega arith
      go true false e = let l = leb-false top_bit word e in omega arith

-- the word of a checkpoint is read back: in a form with the mark where the identifier is below it, in one without where there is none
module _ (form : ℕ) (c : Checkpoint) (low : marks_withdrawn form ≡ true → c.identifier < top_bit) (none : marks_withdrawn form ≡ false → c.withdrawn ≡ false) where
  pub identifier_read : without_mark form (with_mark c) ≡ c.identifier
  unfolding without_mark with_mark
  identifier_read = go (marks_withdrawn form) c.withdrawn refl refl
    where
      go : (marks mark : Bool) → marks_withdrawn form ≡ marks → c.withdrawn ≡ mark
          → cond marks (cond mark (c.identifier + top_bit) c.identifier % top_bit) (cond mark (c.identifier + top_bit) c.identifier) ≡ c.identifier
      go true true e d = let l = low e in omega arith
      go true false e d = let l = low e in omega arith
      go false true e d = absurd (false≢true (sym (none e) ∙ d))
      go false false e d = refl

  pub mark_read : has_mark form (with_mark c) ≡ c.withdrawn
  unfolding has_mark with_mark
  mark_read = go (marks_withdrawn form) c.withdrawn refl refl
    where
      go : (marks mark : Bool) → marks_withdrawn form ≡ marks → c.withdrawn ≡ mark → (marks && leb top_bit (cond mark (c.identifier + top_bit) c.identifier)) ≡ mark
      go true true e d = le-leb top_bit (c.identifier + top_bit) (omega arith)
      go true false e d = lt-leb top_bit c.identifier (low e)
      go false mark e d = sym (none e) ∙ d
