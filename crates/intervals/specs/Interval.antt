-- State intervals and the interval log of document 02, Note 9. `EventIndex` and `IntervalNumber` are the structs of src/lib.rt.
-- Assumes nothing.
use Rattle.std.specs.Prelude.{Bool, not, ℕ, ◌+◌, ◌-◌}
use Rattle.ranges.specs.Fold.{sum_below, tabulate, keep_below}
use Rattle.records.specs.declared.Event.{Event}
use Rattle.records.specs.declared.Checkpoint.{Checkpoint}
use Rattle.records.specs.Forms.{third_form}
use Rattle.records.specs.Event.{is_receive}
use Rattle.event_log.specs.Model.{Log, Workers, Worker, worker_count, role_of, event_count, event_of, checkpoint_count, checkpoint_of}
use Rattle.causality.specs.Cut.{receive_at}
use Rattle.intervals.specs.declared.EventIndex.{EventIndex}
use Rattle.intervals.specs.declared.IntervalNumber.{IntervalNumber}

-- the index of an event or of a checkpoint of a log
abbrev pub index : ℕ → EventIndex
index x = record { 0 = x }

-- "An interval number counts receipts alone": of the state of worker w after its event x, the receives among its events 1 .. x
abbrev pub interval_at : Workers → ℕ → EventIndex → IntervalNumber
interval_at log w x = record { 0 = sum_below (receive_at log w) x.0 }

module _ (log : Workers) where
  -- "peer event replaced by the number of receives in the sender before that send"
  unfoldable pub interval_event : Event → Event
  interval_event e =
      record { kind = e.kind; peer = e.peer; spare = e.spare; send = (interval_at log e.peer (index (e.send - 1))).0; stamp = e.stamp }

  -- "and checkpoint indices by the receives up to them": of a checkpoint of worker w
  unfoldable pub interval_checkpoint : ℕ → Checkpoint → Checkpoint
  interval_checkpoint w c = record { index = (interval_at log w (index c.index)).0; identifier = c.identifier; withdrawn = c.withdrawn }

  -- "only the receives": whether event k + 1 of worker w stays, and what it becomes
  unfoldable pub event_stays : ℕ → ℕ → Bool
  event_stays w k = is_receive (event_of log w (k + 1))

  unfoldable pub event_becomes : ℕ → ℕ → Event
  event_becomes w k = interval_event (event_of log w (k + 1))

  -- "withdrawn checkpoints are dropped": whether recorded checkpoint k + 1 of worker w stays, and what it becomes
  unfoldable pub checkpoint_stays : ℕ → ℕ → Bool
  checkpoint_stays w k = not (checkpoint_of log w (k + 1)).withdrawn

  unfoldable pub checkpoint_becomes : ℕ → ℕ → Checkpoint
  checkpoint_becomes w k = interval_checkpoint w (checkpoint_of log w (k + 1))

  -- worker w of the interval log: its role stays
  unfoldable pub interval_worker : ℕ → Worker
  interval_worker w =
      record {
        role = role_of log w;
        events = keep_below (event_stays w) (event_becomes w) (event_count log w);
        checkpoints = keep_below (checkpoint_stays w) (checkpoint_becomes w) (checkpoint_count log w);
      }

  -- "Convert an accepted log to an interval log": a function of the workers alone
  unfoldable pub interval_workers : Workers
  interval_workers = tabulate interval_worker (worker_count log)

  -- "form 3"
  abbrev pub interval_log : Log
  interval_log = record { form = third_form; workers = interval_workers }
