-- Blocks of events of each worker in turn: once they reach past all events, the whole log is seen. Assumes nothing.
use mathlib.Core.Path.{◌≡◌}
use mathlib.Core.Bool.{true, false}
use Prim.Native.Nat.{ℕ, min, ◌<◌, ◌≤◌}
use native.Mathlib.Omega.{arith}
use Rattle.ranges.specs.Fold.{any_below, max_below}
use Rattle.ranges.proofs.Any.{any_none, any_every, any_some, any_found, any_same}
use Rattle.ranges.proofs.Max.{max_each}
use Rattle.event_log.specs.Model.{Workers, worker_count, event_count}
use Rattle.record_tests.specs.Records.{record_fault, record_count, worker_fault, some_record}
use Rattle.event_pass.specs.Inner.Blocks.{fault_within, some_within}

module _ (log : Workers) where
  -- before the first block
  pub within_none : some_within 0 log ≡ false
  unfolding some_within fault_within
  within_none = any_every (fault_within 0 log) (worker_count log) (λ w h. let none : min 0 (event_count log w) ≡ 0 = omega arith in rw none (any_none (record_fault 0 log w)))

  -- a worker that has more than x events, and one that has no more
  pub within_before : (x w : ℕ) → x < event_count log w → fault_within x log w ≡ false → any_below (record_fault 0 log w) x ≡ false
  unfolding fault_within
  within_before x w h e = let all : min x (event_count log w) ≡ x = omega arith in rw all at e

  pub within_past : (x y w : ℕ) → event_count log w ≤ x → x ≤ y → fault_within x log w ≡ false → fault_within y log w ≡ false
  unfolding fault_within
  within_past x y w h l e = let same : min y (event_count log w) ≡ min x (event_count log w) = omega arith in rw same e

  -- a fault that is found is one of the log's
  pub within_found : (x : ℕ) → some_within x log ≡ true → some_record 0 log ≡ true
  unfolding some_within fault_within some_record worker_fault record_count
  within_found x e =
      let worker = any_some (fault_within x log) (worker_count log) e in
      let event = any_some (record_fault 0 log worker.0) (min x (event_count log worker.0)) worker.2 in
      any_found (worker_fault 0 log) (worker_count log) worker.0 worker.1 (any_found (record_fault 0 log worker.0) (event_count log worker.0) event.0 (omega (arith, event.1)) event.2)

  -- where no worker has more than x events, all are seen
  pub within_all : (x : ℕ) → max_below (event_count log) (worker_count log) ≤ x → some_within x log ≡ some_record 0 log
  unfolding some_within fault_within some_record worker_fault record_count
  within_all x most =
      any_same (fault_within x log) (worker_fault 0 log) (worker_count log)
      (λ w h. let count = max_each (event_count log) (worker_count log) w h in let all : min x (event_count log w) ≡ event_count log w = omega arith in rw all)
