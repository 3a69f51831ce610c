-- A bound on the records that a test looks at. Assumes nothing.
use mathlib.Core.Path.{◌≡◌}
use mathlib.Core.Bool.{Bool, true, false, cond}
use mathlib.Core.List.{List}
use Prim.Native.Nat.{ℕ, ◌≤◌}
use native.Mathlib.Omega.{arith}
use lib.Dec.{eqb}
use Rattle.event_log.specs.Header.{layout_refusal}
use Rattle.event_log.specs.Layout.{workers_of}
use Rattle.event_log.specs.Model.{event_count, checkpoint_count}
use Rattle.event_log.specs.Limits.{max_events}
use Rattle.event_log.proofs.Read.{count_field, checkpoints_field}
use Rattle.record_tests.specs.Records.{record_count}

pub records_bound : (s : List ℕ) → layout_refusal s ≡ 0 → (test w : ℕ) → record_count test (workers_of s) w ≤ max_events
unfolding record_count
records_bound s ok test w = go (eqb test 11)
  where
    go : (b : Bool) → cond b (checkpoint_count (workers_of s) w) (event_count (workers_of s) w) ≤ max_events
    go true = omega (arith, (checkpoints_field s ok w).1)
    go false = (count_field s ok w).1
