-- One pass that asks for any of the tests 7 to 10: where no event fails it, none of these numbers applies. Assumes nothing.
use mathlib.Core.Path.{◌≡◌, refl}
use mathlib.Core.Bool.{false, ◌||◌}
use Prim.Native.Nat.{ℕ, ◌+◌}
use lib.Dec.{eqb}
use Rattle.ranges.proofs.Any.{any_each, any_every}
use Rattle.ranges.proofs.Bools.{or_false_left, or_false_right}
use Rattle.records.specs.declared.Event.{Event}
use Rattle.event_log.specs.Model.{Workers, worker_count, event_of}
use Rattle.record_tests.specs.Records.{field_fault, stamp_fault, source_fault, order_fault, any_fault, event_fault, record_fault, record_count, worker_fault, some_record}
use Rattle.accept.specs.Refusal.{events_refusal}

module _ (log : Workers) (none : some_record 0 log ≡ false) where
  -- a test on events that passes wherever the quick one does
  quick : (test : ℕ) → eqb test 11 ≡ false → ((w k : ℕ) (e : Event) → event_fault 0 log w k e ≡ false → event_fault test log w k e ≡ false) → some_record test log ≡ false
  unfolding some_record worker_fault record_count record_fault
  quick test other passes =
      any_every (worker_fault test log) (worker_count log)
      (λ w h.
      rw other
      (any_every (record_fault test log w) _
      (λ k l. rw other (passes w k (event_of log w (k + 1)) (any_each (record_fault 0 log w) _ (any_each (worker_fault 0 log) (worker_count log) none w h) k l)))))

  pub quick_none : events_refusal log ≡ 0
  unfolding events_refusal event_fault any_fault
  quick_none =
      rw (
        quick 7 refl (λ w k e f. or_false_left (field_fault log w e) (stamp_fault log w k e) (first w k e f)),
        quick 8 refl (λ w k e f. or_false_right (field_fault log w e) (stamp_fault log w k e) (first w k e f)),
        quick 9 refl (λ w k e f. or_false_right (field_fault log w e || stamp_fault log w k e) (source_fault log w e) (front w k e f)),
        quick 10 refl (λ w k e f. or_false_right (field_fault log w e || stamp_fault log w k e || source_fault log w e) (order_fault log e) f),
      )
    where
      front : (w k : ℕ) (e : Event) → (field_fault log w e || stamp_fault log w k e || source_fault log w e || order_fault log e) ≡ false
          → (field_fault log w e || stamp_fault log w k e || source_fault log w e) ≡ false
      front w k e f = or_false_left (field_fault log w e || stamp_fault log w k e || source_fault log w e) (order_fault log e) f

      first : (w k : ℕ) (e : Event) → (field_fault log w e || stamp_fault log w k e || source_fault log w e || order_fault log e) ≡ false
          → (field_fault log w e || stamp_fault log w k e) ≡ false
      first w k e f = or_false_left (field_fault log w e || stamp_fault log w k e) (source_fault log w e) (front w k e f)
