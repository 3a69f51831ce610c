-- Event k + 1 of worker w, as a loop reads it from where the worker's events start and how many they are. Assumes nothing.
use mathlib.Core.Path.{◌≡◌, ◌∙◌}
use mathlib.Core.List.{List}
use Prim.Native.Nat.{ℕ, ◌+◌, ◌*◌, ◌<◌, ◌≤◌}
use lib.ListN.{length}
use Rattle.records.specs.declared.Event.{Event}
use Rattle.records.specs.Event.{event_size, event_record}
use Rattle.event_log.specs.Header.{layout_refusal}
use Rattle.event_log.specs.Layout.{event_start, section, workers_of}
use Rattle.event_log.specs.Model.{event_count, event_of}
use Rattle.event_log.proofs.Read.{next_within, next_event}

module _ (s : List ℕ) (ok : layout_refusal s ≡ 0) (w : ℕ) {k start n : ℕ} (from : start ≡ event_start s w) (size : n ≡ event_count (workers_of s) w)
    (inside : k < event_count (workers_of s) w) where
  counted : k < n
  counted = rw size inside

  -- what `event_in` asks, and what it reads
  pub read_within : (start + event_size * n ≤ length s) × (k < n)
  read_within = (next_within s ok w k n start from size counted, counted)

  pub read_event : {e : Event} → e ≡ event_record (section s start (event_size * n)) k → e ≡ event_of (workers_of s) w (k + 1)
  read_event read = read ∙ next_event s ok w k n start from size counted
