-- What the functions that write an interval log ask for.
-- Assumes nothing.
use Rattle.std.specs.Prelude.{◌≡◌, List, ℕ, ◌<◌, ◌≤◌}
use Rattle.records.specs.declared.Event.{Event}
use Rattle.event_log.specs.Limits.{max_length}
use Rattle.event_log.specs.Layout.{workers_of}
use Rattle.event_log.specs.Model.{Workers, worker_count, event_count}
use Rattle.accept.specs.Refusal.{log_refusal}
use Rattle.pack.specs.Packed.{packed_length}
use Rattle.intervals.specs.declared.IntervalNumber.{IntervalNumber}
use Rattle.intervals.specs.Interval.{interval_workers}

-- the places of the table
abbrev pub table_places : ℕ
table_places = 32768

-- a receive that names an interval of its sender in place of the send
abbrev pub naming : Event → IntervalNumber → Event
naming e number = record { kind = e.kind; peer = e.peer; spare = e.spare; send = number.0; stamp = e.stamp }

-- e names an event of a worker
abbrev pub NamesEvent : Workers → Event → Type 0
NamesEvent log e = (e.peer < worker_count log) × (0 < e.send) × (e.send ≤ event_count log e.peer)

-- an accepted log whose interval log has this length, is not too long and has room in the bytes lent
pub record Space (s : List ℕ) (size lent : ℕ) : Type 0 where
  pub accepted : log_refusal s ≡ 0
  pub long : size ≡ packed_length (interval_workers (workers_of s))
  pub fits : packed_length (interval_workers (workers_of s)) ≤ max_length
  pub enough : packed_length (interval_workers (workers_of s)) ≤ lent
