-- The components of an event's dependency vector: where one is above 0 for another worker, a receive up to the event names it, and
-- it is an event with a smaller stamp. Assumes nothing.
use mathlib.Core.Path.{◌≡◌, refl}
use mathlib.Core.Logic.{◌≢◌}
use mathlib.Core.Bool.{Bool, true, false, cond, ◌&&◌}
use Prim.Native.Nat.{ℕ, ◌+◌, ◌<◌, ◌≤◌}
use native.Mathlib.Omega.{arith}
use borrow.Author.Tests.{eq-eqb, ne_eqb, eqb-true}
use lib.Dec.{eqb}
use Rattle.ranges.specs.Fold.{max_below}
use Rattle.ranges.proofs.Max.{max_each, max_some}
use Rattle.event_log.specs.Model.{Workers, event_count, event_of}
use Rattle.records.specs.Event.{is_receive}
use Rattle.accept.specs.WellFormed.{WellFormed}
use Rattle.causality.specs.Happened.{HappenedBefore, message}
use Rattle.causality.specs.Cut.{named_of, component}
use Rattle.causality.proofs.Order.{Rising, happened_to, happened_rises}

-- event k + 1 of worker i, one of its first e events, is the receive from worker v that names its event d
pub record NamedBy (log : Workers) (i e v d k : ℕ) : Type 0 where
  pub below : k < e
  pub receive : is_receive (event_of log i (k + 1)) ≡ true
  pub peer : (event_of log i (k + 1)).peer ≡ v
  pub send : (event_of log i (k + 1)).send ≡ d

-- the component of the event's own worker is the event
pub component_own : (log : Workers) (i e : ℕ) → component log i e i ≡ e
unfolding component
component_own log i e = rw (eq-eqb i i refl)

-- the component of another worker is the largest event that a receive names
pub component_other : (log : Workers) (i e v : ℕ) → v ≢ i → component log i e v ≡ max_below (named_of log i v) e
unfolding component
component_other log i e v other = rw (ne_eqb v i other)

named_send : (log : Workers) (i k : ℕ) → is_receive (event_of log i (k + 1)) ≡ true → named_of log i (event_of log i (k + 1)).peer k ≡ (event_of log i (k + 1)).send
unfolding named_of
named_send log i k r = rw (r, eq-eqb (event_of log i (k + 1)).peer (event_of log i (k + 1)).peer refl)

-- an event that names something of a worker is a receive from it
pub named_from : (log : Workers) (i e v k : ℕ) → k < e → 0 < named_of log i v k → NamedBy log i e v (named_of log i v k) k
unfolding named_of
named_from log i e v k below h = go (is_receive (event_of log i (k + 1))) refl (eqb (event_of log i (k + 1)).peer v) refl h
  where
    go : (b : Bool) → is_receive (event_of log i (k + 1)) ≡ b → (c : Bool) → eqb (event_of log i (k + 1)).peer v ≡ c
        → 0 < cond (b && c) (event_of log i (k + 1)).send 0 → NamedBy log i e v (cond (b && c) (event_of log i (k + 1)).send 0) k
    go true p true q h = record { below = below; receive = p; peer = eqb-true (event_of log i (k + 1)).peer v q; send = refl }
    go true p false q h = let no : ⊥ = omega arith in absurd no
    go false p c q h = let no : ⊥ = omega arith in absurd no

-- a component above 0 for another worker is named by a receive
pub component_named : (log : Workers) (i e v : ℕ) → v ≢ i → 0 < component log i e v → (k : ℕ) × NamedBy log i e v (component log i e v) k
component_named log i e v other h =
    let c = component_other log i e v other in
    let some = max_some (named_of log i v) e (rw c at h) in
    let n = named_from log i e v some.0 some.1 (rw (some.2, ← c) h) in
    (some.0, rw (c, ← some.2) n)

module _ (log : Workers) (ok : WellFormed log) where
  -- a receive up to event e of i names no event above the component
  pub component_covers : (i e k : ℕ) → k < e → is_receive (event_of log i (k + 1)) ≡ true
      → (event_of log i (k + 1)).send ≤ component log i e (event_of log i (k + 1)).peer
  component_covers i e k h r =
      let peer = (event_of log i (k + 1)).peer in
      let each = max_each (named_of log i peer) e k h in
      rw (component_other log i e peer (ok.sent i (k + 1) r).other) (rw (named_send log i k r) at each)

  -- what a receive up to an event names happened before that event
  pub named_happened : (i e v d k : ℕ) → e ≤ event_count log i → NamedBy log i e v d k → HappenedBefore log v d i e
  named_happened i e v d k bound by = happened_to log ok (k + 1) e (omega (arith, by.below)) bound (message by.receive by.peer by.send)

  -- a component above 0 for another worker is an event with a smaller stamp
  pub component_rises : (i e v : ℕ) → e ≤ event_count log i → v ≢ i → 0 < component log i e v → Rising log v (component log i e v) i e
  component_rises i e v bound other h =
      let by = component_named log i e v other h in
      happened_rises log ok (named_happened i e v (component log i e v) by.0 bound by.1)
