-- A checkpoint and its record. `Checkpoint` is the struct of src/lib.rt.
-- Assumes nothing.
use Rattle.std.specs.Prelude.{false, List, ℕ, ◌+◌, ◌*◌}
use Rattle.bytes_le.specs.Little.{le}
use Rattle.records.specs.declared.Checkpoint.{Checkpoint}
use Rattle.records.specs.Mark.{has_mark, without_mark}

-- "The initial state is always a checkpoint, index 0, identifier 0, and isn't recorded"; "The initial state can't be withdrawn"
abbrev pub initial : Checkpoint
initial = record { index = 0; identifier = 0; withdrawn = false }

-- "A checkpoint record is 8 bytes"
abbrev pub checkpoint_size : ℕ
checkpoint_size = 8

-- the identifier word of record k, from 0, of a section
abbrev pub identifier_word : List ℕ → ℕ → ℕ
identifier_word part k = le 4 part (checkpoint_size * k + 4)

-- "event index (4), checkpoint identifier (4)": record k, from 0, of a section, in a log of this form
unfoldable pub checkpoint_record : ℕ → List ℕ → ℕ → Checkpoint
checkpoint_record form part k =
    record {
      index = le 4 part (checkpoint_size * k);
      identifier = without_mark form (identifier_word part k);
      withdrawn = has_mark form (identifier_word part k);
    }
