-- Events of a well-formed log, and "happened before" among them: stamps grow along it, no event happened before itself, and a
-- consistent cut that holds an event holds all that happened before it. Assumes nothing.
use mathlib.Core.Path.{◌≡◌, refl, ◌∙◌, ap}
use mathlib.Core.Logic.{⊎_elim, ◌⊎◌, inl, inr}
use mathlib.Core.Bool.{true}
use mathlib.Core.List.{List}
use Prim.Native.Nat.{ℕ, ◌+◌, ◌-◌, ◌<◌, ◌≤◌}
use native.Mathlib.Nat.{eq-or-lt_of_le}
use native.Mathlib.Omega.{arith}
use Rattle.ranges.proofs.Order.{lt_or_le}
use Rattle.event_log.specs.Model.{Workers, event_count, event_of, IsEvent}
use Rattle.records.specs.Event.{is_receive}
use Rattle.record_tests.specs.Records.{send_of}
use Rattle.accept.proofs.Accepted.{receive_within}
use Rattle.accept.proofs.Stamps.{stamps_rise}
use Rattle.accept.specs.WellFormed.{WellFormed}
use Rattle.causality.specs.Happened.{HappenedBefore, earlier, message, through}
use Rattle.lent.specs.Lent.{at}
use Rattle.causality.specs.Cut.{Consistent}

-- a receive is an event of the log: `receive_within`, as an `IsEvent`
pub receive_event : (log : Workers) (w x : ℕ) → is_receive (event_of log w x) ≡ true → IsEvent log w x
receive_event log w x r = receive_within log w x r

-- the send of a receive within a consistent cut is within it
pub consistent_send : (log : Workers) (cut : List ℕ) → Consistent log cut → (w x : ℕ) → x ≤ at cut w → is_receive (event_of log w x) ≡ true
    → (event_of log w x).send ≤ at cut (event_of log w x).peer
consistent_send log cut good w x h r =
    let event = receive_event log w x r in
    let e : x - 1 + 1 ≡ x = omega arith in
    (rw e at (good.closed w (x - 1) (omega arith))) r

-- two events of the log, the first with a smaller stamp
pub record Rising (log : Workers) (w x v y : ℕ) : Type 0 where
  pub first : IsEvent log w x
  pub second : IsEvent log v y
  pub stamps : (event_of log w x).stamp < (event_of log v y).stamp

-- event z of worker w, up to its event y, is a receive whose send is event x of worker u or has that event before it
pub record Through (log : Workers) (u x w y z : ℕ) : Type 0 where
  pub bound : z ≤ y
  pub receive : is_receive (event_of log w z) ≡ true
  pub send : (((event_of log w z).peer ≡ u) × ((event_of log w z).send ≡ x)) ⊎ HappenedBefore log u x (event_of log w z).peer (event_of log w z).send

-- what happened before an event is earlier on its worker, or comes through a receive of its worker
pub happened_last : {log : Workers} {u x w y : ℕ} → HappenedBefore log u x w y → ((u ≡ w) × (x < y)) ⊎ ((z : ℕ) × Through log u x w y z)
happened_last (earlier positive less bound) = inl (refl, less)
happened_last (message {x} r p q) = inr (x, record { bound = omega arith; receive = r; send = inl (p, q) })
happened_last {log} {u} {x} {w} {y} (through {v} {y = m} a b) = ⊎_elim (same (happened_last a)) (λ t. inr (t.0, beyond t.0 t.1)) (happened_last b)
  where
    same : ((u ≡ v) × (x < m)) ⊎ ((z : ℕ) × Through log u x v m z) → (v ≡ w) × (m < y) → ((u ≡ w) × (x < y)) ⊎ ((z : ℕ) × Through log u x w y z)
    same first last =
        ⊎_elim (λ c. inl (c.0 ∙ last.0, omega (arith, c.1, last.1)))
        (λ t. inr (t.0, rw (← last.0) (record { bound = omega (arith, t.1.bound, last.1); receive = t.1.receive; send = t.1.send })))
        first

    beyond : (z : ℕ) → Through log v m w y z → Through log u x w y z
    beyond z t =
        record {
          bound = t.bound;
          receive = t.receive;
          send = ⊎_elim (λ c. inr (rw (c.0, c.1) a)) (λ c. inr (through a c)) t.send;
        }

module _ (log : Workers) (ok : WellFormed log) where
  -- within a worker, the smaller stamp has the smaller index
  pub index_less : (w x y : ℕ) → x ≤ event_count log w → (event_of log w x).stamp < (event_of log w y).stamp → x < y
  index_less w x y l h =
      ⊎_elim (λ less. less)
      (λ g. ⊎_elim (λ q. let e : (event_of log w y).stamp ≡ (event_of log w x).stamp = ap (λ (z : ℕ). (event_of log w z).stamp) q in let no : ⊥ = omega arith in absurd no)
      (λ less. let rise = stamps_rise log ok w y x less l in let no : ⊥ = omega arith in absurd no)
      (eq-or-lt_of_le g))
      (lt_or_le x y)

  -- a receive and the send that it names
  pub send_rises : (w x : ℕ) → is_receive (event_of log w x) ≡ true → Rising log (event_of log w x).peer (event_of log w x).send w x
  unfolding send_of
  send_rises w x r =
      let sent = ok.sent w x r in
      record { first = (sent.positive, sent.counted); second = receive_event log w x r; stamps = sent.earlier }

  -- what happened before an event is an event with a smaller stamp
  pub happened_rises : {w x v y : ℕ} → HappenedBefore log w x v y → Rising log w x v y
  happened_rises (earlier {w} {x} {y} positive less bound) =
      record { first = (positive, omega arith); second = (omega arith, bound); stamps = stamps_rise log ok w x y less bound }
  happened_rises (message {v} {s} {w} {x} r p q) = rw (p, q) at (send_rises w x r)
  happened_rises (through a b) =
      let first = happened_rises a in
      let second = happened_rises b in
      record { first = first.first; second = second.second; stamps = omega arith }

  -- no event happened before itself
  pub happened_irreflexive : {w x : ℕ} → HappenedBefore log w x w x → ⊥
  happened_irreflexive h = let r = happened_rises h in omega arith

  -- what an event happened before, each earlier event of its worker happened before
  pub happened_from : {w v y : ℕ} (x z : ℕ) → 0 < x → x ≤ z → HappenedBefore log w z v y → HappenedBefore log w x v y
  happened_from x z positive h b =
      ⊎_elim (λ q. rw q b) (λ less. through (earlier positive less (happened_rises b).first.1) b) (eq-or-lt_of_le h)

  -- what happened before an event happened before each later event of its worker
  pub happened_to : {w x v : ℕ} (y z : ℕ) → y ≤ z → z ≤ event_count log v → HappenedBefore log w x v y → HappenedBefore log w x v z
  happened_to y z h bound b =
      ⊎_elim (λ q. rw q at b) (λ less. through b (earlier (happened_rises b).second.0 less bound)) (eq-or-lt_of_le h)

  -- a consistent cut that holds an event holds what happened before it
  pub consistent_holds : (cut : List ℕ) → Consistent log cut → {w x v y : ℕ} → HappenedBefore log w x v y → y ≤ at cut v → x ≤ at cut w
  consistent_holds cut good (earlier positive less bound) h = omega arith
  consistent_holds cut good (message {w} {x} r p q) h = rw (p, q) at (consistent_send log cut good w x h r)
  consistent_holds cut good (through a b) h = consistent_holds cut good a (consistent_holds cut good b h)
