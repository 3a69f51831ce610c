-- From accepted to usable: a log with `log_refusal s ≡ 0` passes the tests of its layout, and what it holds is well formed.
-- Assumes nothing.
use mathlib.Core.Path.{◌≡◌, refl, sym, ◌∙◌, ap}
use mathlib.Core.Bool.{Bool, true, false, not, cond, ◌&&◌, ◌||◌, false≢true}
use mathlib.Core.Logic.{◌⊎◌, inl, inr, ⊎_elim, ◌≢◌}
use mathlib.Core.List.{List}
use Prim.Native.Nat.{ℕ, zero, suc, ◌+◌, ◌<◌, ◌≤◌}
use native.Mathlib.Numerals.{add-one}
use native.Mathlib.Omega.{arith}
use borrow.Author.Tests.{ltb-false, leb-false, eqb-true, eqb-false, not-false}
use lib.Dec.{eqb, leb, ltb}
use Rattle.ranges.proofs.Any.{any_each}
use Rattle.ranges.proofs.Bools.{or_false_left, or_false_right, and_true_left, and_true_right, and_false_right}
use Rattle.ranges.proofs.Order.{lt_or_le}
use Rattle.records.specs.declared.Kind.TheVariants.{Rest}
use Rattle.records.specs.declared.Event.{Event}
use Rattle.event_log.specs.Header.{layout_refusal}
use Rattle.event_log.specs.Layout.{workers_of, log_of}
use Rattle.event_log.specs.Model.{Workers, worker_count, event_count, event_of, checkpoint_count, checkpoint_of}
use Rattle.records.specs.Event.{is_send, is_receive}
use Rattle.lent.proofs.Lent.{peel, or_else_zero}
use Rattle.event_log.proofs.Readable.{readable}
use Rattle.records.proofs.EventKinds.{no_receive, not_send, some_kind}
use Rattle.event_log.proofs.Read.{size_read, workers_few, count_field, checkpoints_field, role_field_lem, worker_within, worker_within', event_none, event_past, checkpoint_initial, checkpoint_past}
use Rattle.record_tests.specs.Records.{kind_fault, peer_fault, send_fault, field_fault, stamp_fault, send_of, source_fault, order_fault, event_fault}
use Rattle.record_tests.specs.Records.{checkpoint_fault, record_fault, record_count, worker_fault, some_record}
use Rattle.repeats.specs.Repeats.{repeat_fault}
use Rattle.accept.specs.Refusal.{events_refusal, records_refusal, content_refusal, log_refusal}
use Rattle.accept.specs.WellFormed.{Sent, WellFormed}

-- ---- an event that is no `no_event` is an event of a worker
pub receive_within : (log : Workers) (w x : ℕ) → is_receive (event_of log w x) ≡ true → (0 < x) × (x ≤ event_count log w)
receive_within log w zero e = absurd (false≢true (sym (ap is_receive (event_none log w) ∙ no_receive) ∙ e))
receive_within log w (suc k) e =
    ⊎_elim
    (λ l. absurd (false≢true (sym (ap is_receive (event_past log w (suc k) l) ∙ no_receive) ∙ e)))
    (λ l. (omega arith, l))
    (lt_or_le (event_count log w) (suc k))

-- an event of a well-formed log is of one of the three kinds
pub known_kind : (log : Workers) → WellFormed log → (w x : ℕ) → 0 < x → x ≤ event_count log w → (event_of log w x).kind ≢ Rest
known_kind log ok w x some here = some_kind (event_of log w x) (ok.kinds w x some here)

-- a log whose layout and whose records pass their tests
module _ (s : List ℕ) (layout : layout_refusal s ≡ 0) (records : records_refusal (workers_of s) ≡ 0) where
  tests : (some_record 7 (workers_of s) ≡ false) × (some_record 8 (workers_of s) ≡ false) × (some_record 9 (workers_of s) ≡ false)
      × (some_record 10 (workers_of s) ≡ false) × (some_record 11 (workers_of s) ≡ false)
  unfolding records_refusal events_refusal
  tests =
      let parts = or_else_zero (events_refusal (workers_of s)) (cond (some_record 11 (workers_of s)) 11 0) records in
      let seven = peel (some_record 7 (workers_of s)) 6 _ parts.0 in
      let eight = peel (some_record 8 (workers_of s)) 7 _ seven.1 in
      let nine = peel (some_record 9 (workers_of s)) 8 _ eight.1 in
      let ten = peel (some_record 10 (workers_of s)) 9 _ nine.1 in
      let eleven = peel (some_record 11 (workers_of s)) 10 _ parts.1 in
      (seven.0, eight.0, nine.0, ten.0, eleven.0)

  -- a test that no record fails: this record passes it
  passed : (test w k : ℕ) → some_record test (workers_of s) ≡ false → w < worker_count (workers_of s) → k < record_count test (workers_of s) w → record_fault test (workers_of s) w k ≡ false
  unfolding some_record worker_fault
  passed test w k none h l =
      any_each (record_fault test (workers_of s) w) (record_count test (workers_of s) w) (any_each (worker_fault test (workers_of s)) (worker_count (workers_of s)) none w h) k l

  event_passed : (test w k : ℕ) → some_record test (workers_of s) ≡ false → eqb test 11 ≡ false → k < event_count (workers_of s) w
      → event_fault test (workers_of s) w k (event_of (workers_of s) w (k + 1)) ≡ false
  unfolding record_fault record_count
  event_passed test w k none other h = rw other at (passed test w k none (worker_within (workers_of s) w k h) (rw other h))

  checkpoint_passed : (w k : ℕ) → k < checkpoint_count (workers_of s) w → checkpoint_fault (workers_of s) w (checkpoint_of (workers_of s) w k) (checkpoint_of (workers_of s) w (k + 1)) ≡ false
  unfolding record_fault record_count
  checkpoint_passed w k h = passed 11 w k tests.4 (worker_within' (workers_of s) w k h) h

  -- ---- test by test, of event k + 1 of worker w
  module _ (w k : ℕ) (h : k < event_count (workers_of s) w) where
    abbrev e : Event
    e = event_of (workers_of s) w (k + 1)

    fields : field_fault (workers_of s) w e ≡ false
    unfolding event_fault
    fields = event_passed 7 w k tests.0 refl h

    kind_peer_send : (kind_fault e ≡ false) × (peer_fault (workers_of s) w e ≡ false) × (send_fault (workers_of s) e ≡ false)
    unfolding field_fault
    kind_peer_send =
        let spare = not (eqb e.spare 0) in
        let kind = kind_fault e in
        let peer = peer_fault (workers_of s) w e in
        let front = or_false_left (spare || kind || peer) (send_fault (workers_of s) e) fields in
        (or_false_right spare kind (or_false_left (spare || kind) peer front), or_false_right (spare || kind) peer front, or_false_right (spare || kind || peer) (send_fault (workers_of s) e) fields)

    kind : (is_send e ≡ true) ⊎ (is_receive e ≡ true)
    unfolding kind_fault
    kind = go (is_send e) refl (is_receive e) refl kind_peer_send.0
      where
        go : (a : Bool) → is_send e ≡ a → (b : Bool) → is_receive e ≡ b → not (a || b) ≡ false → (is_send e ≡ true) ⊎ (is_receive e ≡ true)
        go true p b q f = inl p
        go false p true q f = inr q
        go false p false q f = absurd (false≢true (sym f))

    peer : e.peer < worker_count (workers_of s)
    unfolding peer_fault
    peer = leb-false _ _ (or_false_right (eqb e.peer w) (leb (worker_count (workers_of s)) e.peer) kind_peer_send.1)

    names_none : is_send e ≡ true → e.send ≡ 0
    unfolding send_fault
    names_none is = eqb-true e.send 0 (not-false (eqb e.send 0) (rw is at kind_peer_send.2))

    rise : (event_of (workers_of s) w k).stamp < (event_of (workers_of s) w (k + 1)).stamp
    unfolding event_fault stamp_fault
    rise = leb-false _ _ (event_passed 8 w k tests.1 refl h)

    source : is_receive e ≡ true → (is_send (send_of (workers_of s) e) ≡ true) × ((send_of (workers_of s) e).peer ≡ w)
    unfolding event_fault source_fault
    source r =
        let send = is_send (send_of (workers_of s) e) in
        let here = eqb (send_of (workers_of s) e).peer w in
        let found = not-false (send && here) (and_false_right (is_receive e) (not (send && here)) (event_passed 9 w k tests.2 refl h) r) in
        (and_true_left send here found, eqb-true _ _ (and_true_right send here found))

    order : is_receive e ≡ true → (send_of (workers_of s) e).stamp < e.stamp
    unfolding event_fault order_fault
    order r = leb-false _ _ (and_false_right (is_receive e) (leb e.stamp (send_of (workers_of s) e).stamp) (event_passed 10 w k tests.3 refl h) r)

    sent_by : is_receive e ≡ true → Sent (workers_of s) w e
    unfolding peer_fault send_fault
    sent_by r =
        let itself = eqb e.peer w in
        let past = leb (worker_count (workers_of s)) e.peer in
        let send : (eqb e.send 0 || ltb (event_count (workers_of s) e.peer) e.send) ≡ false = rw (not_send e r) at kind_peer_send.2 in
        let zero = eqb e.send 0 in
        let over_count = ltb (event_count (workers_of s) e.peer) e.send in
        let positive = eqb-false e.send 0 (or_false_left zero over_count send) in
        record {
          other = eqb-false e.peer w (or_false_left itself past kind_peer_send.1);
          within = peer;
          positive = omega (arith, positive);
          counted = ltb-false _ _ (or_false_right zero over_count send);
          send = (source r).0;
          addressed = (source r).1;
          earlier = order r;
        }

  checkpoint_order : (w k : ℕ) → k < checkpoint_count (workers_of s) w
      → ((checkpoint_of (workers_of s) w (k + 1)).index ≤ event_count (workers_of s) w)
      × ((checkpoint_of (workers_of s) w k).index ≤ (checkpoint_of (workers_of s) w (k + 1)).index)
      × ((checkpoint_of (workers_of s) w k).identifier < (checkpoint_of (workers_of s) w (k + 1)).identifier)
  unfolding checkpoint_fault
  checkpoint_order w k h =
      let before = checkpoint_of (workers_of s) w k in
      let c = checkpoint_of (workers_of s) w (k + 1) in
      let over_count = ltb (event_count (workers_of s) w) c.index in
      let falls = ltb c.index before.index in
      let low = leb c.identifier before.identifier in
      let front = or_false_left (over_count || falls) low (checkpoint_passed w k h) in
      (ltb-false _ _ (or_false_left over_count falls front), ltb-false _ _ (or_false_right over_count falls front), leb-false _ _ (or_false_right (over_count || falls) low (checkpoint_passed w k h)))

  index_within : (w c : ℕ) → (checkpoint_of (workers_of s) w c).index ≤ event_count (workers_of s) w
  index_within w zero = rw (checkpoint_initial (workers_of s) w) (omega arith)
  index_within w (suc k) =
      ⊎_elim (λ l. rw add-one at (checkpoint_order w k l).0) (λ l. rw (checkpoint_past (workers_of s) w (suc k) (omega arith)) (omega arith)) (lt_or_le k (checkpoint_count (workers_of s) w))

  pub formed : WellFormed (workers_of s)
  formed =
      record {
        some = rw (size_read s) (readable s layout).some;
        few = workers_few s layout;
        events = λ w. (count_field s layout w).1;
        recorded = λ w. (checkpoints_field s layout w).1;
        roles = λ w. (role_field_lem s layout w).1;
        kinds = kinds;
        peers = peers;
        nameless = nameless;
        rises = rise;
        sent = sent;
        indices = index_within;
        ordered = λ w k h. (checkpoint_order w k h).1;
        identified = λ w k h. (checkpoint_order w k h).2;
      }
    where
      kinds : (w x : ℕ) → 0 < x → x ≤ event_count (workers_of s) w → (is_send (event_of (workers_of s) w x) ≡ true) ⊎ (is_receive (event_of (workers_of s) w x) ≡ true)
      kinds w zero p h = let no : ⊥ = omega arith in absurd no
      kinds w (suc k) p h = rw add-one at (kind w k h)

      peers : (w x : ℕ) → 0 < x → x ≤ event_count (workers_of s) w → (event_of (workers_of s) w x).peer < worker_count (workers_of s)
      peers w zero p h = let no : ⊥ = omega arith in absurd no
      peers w (suc k) p h = rw add-one at (peer w k h)

      nameless : (w x : ℕ) → 0 < x → x ≤ event_count (workers_of s) w → is_send (event_of (workers_of s) w x) ≡ true → (event_of (workers_of s) w x).send ≡ 0
      nameless w zero p h = let no : ⊥ = omega arith in absurd no
      nameless w (suc k) p h = rw add-one at (names_none w k h)

      sent : (w x : ℕ) → is_receive (event_of (workers_of s) w x) ≡ true → Sent (workers_of s) w (event_of (workers_of s) w x)
      sent w zero r = let no = receive_within (workers_of s) w 0 r in let no' : ⊥ = omega arith in absurd no'
      sent w (suc k) r = rw add-one at (sent_by w k (receive_within (workers_of s) w (suc k) r).1 (rw add-one r))

-- an accepted one: its form permits its receives too
module _ (s : List ℕ) (accepted : log_refusal s ≡ 0) where
  both : (layout_refusal s ≡ 0) × (content_refusal (log_of s) ≡ 0)
  unfolding log_refusal
  both = or_else_zero (layout_refusal s) (content_refusal (log_of s)) accepted

  pub accepted_layout : layout_refusal s ≡ 0
  accepted_layout = both.0

  passes : (records_refusal (workers_of s) ≡ 0) × (◌≡◌ {A = ℕ} (cond (repeat_fault (log_of s)) 24 0) 0)
  unfolding content_refusal
  passes = or_else_zero (records_refusal (workers_of s)) (cond (repeat_fault (log_of s)) 24 0) both.1

  pub well_formed : WellFormed (workers_of s)
  well_formed = formed s accepted_layout passes.0

  pub accepted_once : repeat_fault (log_of s) ≡ false
  accepted_once = (peel (repeat_fault (log_of s)) 23 0 passes.1).0
