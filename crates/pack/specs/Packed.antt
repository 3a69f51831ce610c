-- The packed log of document 02, Note 2: "header, then each worker's events and after them its checkpoints, in worker order, without gaps".
-- Assumes nothing.
use Rattle.std.specs.Prelude.{List, [], ◌∷◌, ◌++◌, ℕ, ◌+◌, ◌*◌}
use Rattle.ranges.specs.Fold.{sum_below, join_below}
use Rattle.lent.specs.Lent.{at}
use Rattle.bytes_le.specs.Little.{bytes_of}
use Rattle.records.specs.declared.Event.{Event}
use Rattle.records.specs.declared.Checkpoint.{Checkpoint}
use Rattle.records.specs.Kind.{kind_number}
use Rattle.records.specs.Mark.{with_mark}
use Rattle.event_log.specs.Model.{Log, Workers, worker_count, role_of, event_count, event_of, checkpoint_count, checkpoint_of}
use Rattle.event_log.specs.Layout.{header_of}
use Rattle.records.specs.Event.{event_size}
use Rattle.records.specs.Checkpoint.{checkpoint_size}

-- "kind (1 byte), peer (1 byte), spare (2 bytes, zero), peer event (4 bytes), stamp (4 bytes)"
unfoldable pub event_bytes : Event → List ℕ
event_bytes e = bytes_of 1 (kind_number e.kind) ++ bytes_of 1 e.peer ++ bytes_of 2 e.spare ++ bytes_of 4 e.send ++ bytes_of 4 e.stamp

-- "event index (4), checkpoint identifier (4)", with the mark of a withdrawn one
unfoldable pub checkpoint_bytes : Checkpoint → List ℕ
checkpoint_bytes c = bytes_of 4 c.index ++ bytes_of 4 (with_mark c)

-- number j of a list, in 32 bits
unfoldable pub number_at : List ℕ → ℕ → List ℕ
number_at numbers j = bytes_of 4 (at numbers j)

-- "Bytes 0-1: form, .. Bytes 2-3: worker count n, .. Bytes 4-7: length of the log in bytes"
abbrev pub field_bytes : ℕ → ℕ → ℕ → List ℕ
field_bytes form n size = bytes_of 2 form ++ bytes_of 2 n ++ bytes_of 4 size

-- "event count .., event offset, checkpoint count .., checkpoint offset, role": of sections that begin at `start`, the checkpoints right
-- behind the events
abbrev pub entry_numbers : ℕ → ℕ → ℕ → ℕ → List ℕ
entry_numbers start events checkpoints role = events ∷ start ∷ checkpoints ∷ (start + event_size * events) ∷ role ∷ []

-- the "entries of five 32-bit numbers"
abbrev pub entry_bytes : ℕ → ℕ → ℕ → ℕ → List ℕ
entry_bytes start events checkpoints role = join_below (number_at (entry_numbers start events checkpoints role)) 5

module _ (log : Workers) where
  -- record k, from 0, of the events and of the checkpoints of worker w
  unfoldable pub event_at : ℕ → ℕ → List ℕ
  event_at w k = event_bytes (event_of log w (k + 1))

  unfoldable pub checkpoint_at : ℕ → ℕ → List ℕ
  checkpoint_at w k = checkpoint_bytes (checkpoint_of log w (k + 1))

  -- "each worker's events and after them its checkpoints", and how many bytes they are
  unfoldable pub sections_of : ℕ → List ℕ
  sections_of w = join_below (event_at w) (event_count log w) ++ join_below (checkpoint_at w) (checkpoint_count log w)

  unfoldable pub sections_size : ℕ → ℕ
  sections_size w = event_size * event_count log w + checkpoint_size * checkpoint_count log w

  -- "in worker order, without gaps": where the sections of worker w begin, after the header and those of the workers before it
  unfoldable pub start_of : ℕ → ℕ
  start_of w = header_of (worker_count log) + sum_below sections_size w

  -- the numbers of the entry of worker w, and their bytes: an empty section stands where it would begin
  unfoldable pub numbers_of : ℕ → List ℕ
  numbers_of w = entry_numbers (start_of w) (event_count log w) (checkpoint_count log w) (role_of log w)

  unfoldable pub entry_of : ℕ → List ℕ
  entry_of w = join_below (number_at (numbers_of w)) 5

  -- the length of the packed log
  unfoldable pub packed_length : ℕ
  packed_length = start_of (worker_count log)

-- the form, the worker count and the length of a packed log
unfoldable pub fields_of : Log → List ℕ
fields_of log = field_bytes log.form (worker_count log.workers) (packed_length log.workers)

-- these, "then n entries", then the sections
unfoldable pub packed : Log → List ℕ
packed log =
    fields_of log ++ join_below (entry_of log.workers) (worker_count log.workers) ++ join_below (sections_of log.workers) (worker_count log.workers)
