-- Event k + 1 of worker w, as a loop reads it from where the worker's events start and how many they are. Assumes nothing.
use mathlib.Core.Path.{◌≡◌, ◌∙◌}
use mathlib.Core.List.{List}
use Prim.Native.Nat.{ℕ, ◌+◌, ◌*◌, ◌<◌, ◌≤◌}
use native.Mathlib.Omega.{arith}
use lib.ListN.{length}
use Rattle.records.specs.declared.Event.{Event}
use Rattle.records.specs.Event.{received, event_size, event_record}
use Rattle.event_log.specs.Header.{layout_refusal}
use Rattle.event_log.specs.Layout.{event_start, section, workers_of}
use Rattle.event_log.specs.Limits.{max_workers}
use Rattle.event_log.specs.Model.{Workers, worker_count, event_count, event_of}
use Rattle.event_log.proofs.Read.{workers_few, next_within, next_event}
use Rattle.repeats.specs.Inner.Again.{Messages}
use Rattle.repeats.proofs.Places.{received_named}

-- it is the event of the model, its peer is a worker, and a receive names an event from 1 on
pub record EventRead (log : Workers) (w k : ℕ) (e : Event) : Type 0 where
  pub event : e ≡ event_of log w (k + 1)
  pub peer : e.peer < worker_count log
  pub few : e.peer < max_workers
  pub named : received e ≤ e.send

module _ (s : List ℕ) (ok : layout_refusal s ≡ 0) (w : ℕ) {k start n : ℕ} (from : start ≡ event_start s w) (size : n ≡ event_count (workers_of s) w) (h : k < n) where
  -- what `event_in` asks, and what it reads
  pub read_within : (start + event_size * n ≤ length s) × (k < n)
  read_within = (next_within s ok w k n start from size h, h)

  pub read_event : Messages (workers_of s) → {e : Event} → e ≡ event_record (section s start (event_size * n)) k → EventRead (workers_of s) w k e
  read_event messages {e} read =
      let event = read ∙ next_event s ok w k n start from size h in
      let peer : e.peer < worker_count (workers_of s) = rw event (messages.peers w k (rw (← size) h)) in
      let few = workers_few s ok in
      record { event = event; peer = peer; few = omega arith; named = rw event (received_named (workers_of s) messages w k) }
