-- The layout of a log in bytes, and the log that it holds. No other definition knows a byte or an offset, but for the records and the
-- tests 1 to 6.
-- Assumes nothing.
use Rattle.std.specs.Prelude.{cond, List, ℕ, ◌+◌, ◌*◌, leb, take, drop}
use Rattle.ranges.specs.Fold.{tabulate}
use Rattle.bytes_le.specs.Little.{le}
use Rattle.records.specs.Event.{event_size, event_record}
use Rattle.records.specs.Checkpoint.{checkpoint_size, checkpoint_record}
use Rattle.event_log.specs.Model.{Log, Workers, Worker}

-- "Bytes 0-1: form, .. Bytes 2-3: worker count n, .. Bytes 4-7: length of the log in bytes"
abbrev pub form_field : List ℕ → ℕ
form_field s = le 2 s 0

abbrev pub size_field : List ℕ → ℕ
size_field s = le 2 s 2

abbrev pub length_field : List ℕ → ℕ
length_field s = le 4 s 4

-- "The header is 8 + 20 × n bytes"
abbrev pub header_of : ℕ → ℕ
header_of n = 8 + 20 * n

-- "n entries of five 32-bit numbers": number j of the entry of worker w
unfoldable pub field : List ℕ → ℕ → ℕ → ℕ
field s w j = le 4 s (header_of w + 4 * j)

-- number j of the entry of worker w, and 0 past the last worker
unfoldable pub entry_or_zero : List ℕ → ℕ → ℕ → ℕ
entry_or_zero s w j = cond (leb (size_field s) w) 0 (field s w j)

-- "event count .., event offset, checkpoint count .., checkpoint offset, role"
abbrev pub event_count_field : ℕ
event_count_field = 0

abbrev pub event_offset_field : ℕ
event_offset_field = 1

abbrev pub checkpoint_count_field : ℕ
checkpoint_count_field = 2

abbrev pub checkpoint_offset_field : ℕ
checkpoint_offset_field = 3

abbrev pub role_field : ℕ
role_field = 4

-- "Each worker's section is handed on as the part of the log that starts at its offset"
unfoldable pub section : List ℕ → ℕ → ℕ → List ℕ
section s start bytes = take bytes (drop start s)

-- where the section of events of worker w starts, and 0 past the last worker
unfoldable pub event_start : List ℕ → ℕ → ℕ
event_start s w = entry_or_zero s w event_offset_field

unfoldable pub event_section : List ℕ → ℕ → List ℕ
event_section s w = section s (field s w event_offset_field) (event_size * field s w event_count_field)

unfoldable pub checkpoint_section : List ℕ → ℕ → List ℕ
checkpoint_section s w = section s (field s w checkpoint_offset_field) (checkpoint_size * field s w checkpoint_count_field)

unfoldable pub worker_of : List ℕ → ℕ → Worker
worker_of s w =
    record {
      role = field s w role_field;
      events = tabulate (event_record (event_section s w)) (field s w event_count_field);
      checkpoints = tabulate (checkpoint_record (form_field s) (checkpoint_section s w)) (field s w checkpoint_count_field);
    }

-- the workers that the bytes hold, and the log
unfoldable pub workers_of : List ℕ → Workers
workers_of s = tabulate (worker_of s) (size_field s)

abbrev pub log_of : List ℕ → Log
log_of s = record { form = form_field s; workers = workers_of s }
