-- The identifier word of a checkpoint record, with the mark of a withdrawn checkpoint: document 02, Note 6.
-- Assumes nothing.
use Rattle.std.specs.Prelude.{Bool, cond, ◌&&◌, ℕ, ◌+◌, ◌%◌, leb}
use Rattle.records.specs.declared.Checkpoint.{Checkpoint}
use Rattle.records.specs.Forms.{marks_withdrawn}

-- the top bit of a word of 32 bits
abbrev pub top_bit : ℕ
top_bit = 2147483648

-- "In form 2 the top bit of the identifier word marks a withdrawn checkpoint": whether a word of a log of this form has the mark
unfoldable pub has_mark : ℕ → ℕ → Bool
has_mark form word = marks_withdrawn form && leb top_bit word

-- "the low 31 bits are the identifier"; "In form 1 the word is the identifier as before"
unfoldable pub without_mark : ℕ → ℕ → ℕ
without_mark form word = cond (marks_withdrawn form) (word % top_bit) word

-- the identifier word of a checkpoint: the identifier, and the mark where the checkpoint is withdrawn
unfoldable pub with_mark : Checkpoint → ℕ
with_mark c = cond c.withdrawn (c.identifier + top_bit) c.identifier
