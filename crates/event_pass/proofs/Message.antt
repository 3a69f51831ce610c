-- What an event shows beside the one before it, and what one that names another shows beside that, are together the tests 7 to 10. Assumes nothing.
use mathlib.Core.Path.{◌≡◌, refl, sym, ◌∙◌}
use mathlib.Core.Bool.{Bool, true, false, not, cond, ◌||◌, false≢true}
use mathlib.Core.Logic.{⊎_elim}
use Prim.Native.Nat.{ℕ, ◌<◌}
use borrow.Author.Tests.{leb-false, lt-ltb, le-ltb, not-false, not-true}
use lib.Dec.{eqb, leb, ltb}
use Rattle.ranges.proofs.Order.{lt_or_le}
use Rattle.ranges.proofs.Bools.{or_false_left, or_false_right}
use Rattle.records.specs.declared.Event.{Event}
use Rattle.event_log.specs.Model.{Workers, worker_count, event_count, event_of}
use Rattle.records.specs.Event.{is_send, is_receive}
use Rattle.event_log.proofs.Read.{event_past}
use Rattle.records.proofs.EventKinds.{no_send, not_send, not_receive}
use Rattle.record_tests.specs.Records.{kind_fault, peer_fault, send_fault, field_fault, stamp_fault, send_of, source_fault, order_fault, any_fault}
use Rattle.event_pass.specs.Inner.Message.{is_naming, own_fault, naming_fault}

module _ (log : Workers) (w k : ℕ) (e : Event) where
  -- the parts of an event's own test, where it passes
  record Passed : Type 0 where
    pub spare : eqb e.spare 0 ≡ true
    pub peer : peer_fault log w e ≡ false
    pub stamp : stamp_fault log w k e ≡ false
    pub known : (is_naming e || is_send e) ≡ true

  passed : own_fault log w (event_of log w k).stamp e ≡ false → Passed
  unfolding own_fault stamp_fault
  passed f =
      let A = not (eqb e.spare 0) in
      let B = peer_fault log w e in
      let C = leb e.stamp (event_of log w k).stamp in
      let D = not (is_naming e || is_send e) in
      let three = or_false_left (A || B || C) D f in
      let two = or_false_left (A || B) C three in
      record {
        spare = not-false _ (or_false_left A B two);
        peer = or_false_right A B two;
        stamp = or_false_right (A || B) C three;
        known = not-false _ (or_false_right (A || B || C) D f);
      }

  -- an event that names none and whose own tests pass has no fault
  pub passes : own_fault log w (event_of log w k).stamp e ≡ false → is_naming e ≡ false → any_fault log w k e ≡ false
  unfolding any_fault field_fault kind_fault send_fault source_fault order_fault is_naming
  passes f other =
      let p = passed f in
      let send : is_send e ≡ true = rw other at p.known in
      rw (p.spare, send, p.peer, not-false (eqb e.send 0) other, p.stamp, not_receive e send)

  -- an event that names another and whose own tests pass has one exactly where it is no receive, or beside the event that it names
  pub naming_decides : own_fault log w (event_of log w k).stamp e ≡ false → is_naming e ≡ true → naming_fault log w e ≡ any_fault log w k e
  unfolding naming_fault any_fault field_fault kind_fault send_fault source_fault order_fault send_of is_naming
  naming_decides f naming = go (is_receive e) refl (is_send e) refl
    where
      p : Passed
      p = passed f

      some : eqb e.send 0 ≡ false
      some = not-true (eqb e.send 0) naming

      go : (r : Bool) → is_receive e ≡ r → (s : Bool) → is_send e ≡ s → naming_fault log w e ≡ any_fault log w k e
      go true receive s q =
          ⊎_elim
          (λ past. rw (p.spare, receive, not_send e receive, p.peer, some, p.stamp, lt-ltb (event_count log e.peer) e.send past, event_past log e.peer e.send past, no_send))
          (λ within. rw (p.spare, receive, not_send e receive, p.peer, some, p.stamp, le-ltb (event_count log e.peer) e.send within))
          (lt_or_le (event_count log e.peer) e.send)
      go false other true send = rw (p.spare, other, send, p.peer, some)
      go false other false rest = rw (p.spare, other, rest)

  -- a send, or an event that names another
  send_known : send_fault log e ≡ false → (is_naming e || is_send e) ≡ true
  unfolding send_fault is_naming
  send_known = go (is_send e) (eqb e.send 0)
    where
      go : (s z : Bool) → cond s (not z) (z || ltb (event_count log e.peer) e.send) ≡ false → (not z || s) ≡ true
      go true true q = refl
      go true false q = refl
      go false true q = absurd (false≢true (sym q))
      go false false q = refl

  own_passes : any_fault log w k e ≡ false → own_fault log w (event_of log w k).stamp e ≡ false
  unfolding any_fault field_fault own_fault stamp_fault
  own_passes f =
      let A = not (eqb e.spare 0) in
      let B = kind_fault e in
      let C = peer_fault log w e in
      let D = send_fault log e in
      let S = leb e.stamp (event_of log w k).stamp in
      let two = or_false_left (A || B || C || D || S) (source_fault log w e) (or_false_left (A || B || C || D || S || source_fault log w e) (order_fault log e) f) in
      let seven = or_false_left (A || B || C || D) S two in
      let front = or_false_left (A || B || C) D seven in
      rw (or_false_left A B (or_false_left (A || B) C front), or_false_right (A || B) C front, or_false_right (A || B || C || D) S two, send_known (or_false_right (A || B || C) D seven))

  -- a fault of its own is one of these
  pub own_decides : own_fault log w (event_of log w k).stamp e ≡ true → any_fault log w k e ≡ true
  own_decides f = go (any_fault log w k e) refl
    where
      go : (b : Bool) → any_fault log w k e ≡ b → any_fault log w k e ≡ true
      go true q = q
      go false q = absurd (false≢true (sym (own_passes q) ∙ f))

  -- the peer of an event whose own tests pass is a worker
  pub own_peer : own_fault log w (event_of log w k).stamp e ≡ false → e.peer < worker_count log
  unfolding peer_fault
  own_peer f = leb-false _ _ (or_false_right (eqb e.peer w) (leb (worker_count log) e.peer) (passed f).peer)
