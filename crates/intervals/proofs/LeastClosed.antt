-- The receives within the lower cut of an event are the least closed interval cut that holds the event's interval: the receives within a
-- consistent cut are closed, and the events whose receives are within a closed interval cut are a consistent cut. Assumes nothing.
use mathlib.Core.Path.{◌≡◌, ◌∙◌, sym, ap}
use mathlib.Core.Bool.{Bool, true}
use mathlib.Core.Logic.{⊎_elim}
use mathlib.Core.List.{List}
use Prim.Native.Nat.{ℕ, ◌+◌, ◌-◌, ◌<◌, ◌≤◌}
use native.Mathlib.Omega.{arith}
use borrow.Author.Tests.{ltb-true, ltb-false}
use lib.Dec.{ltb}
use lib.Seq.{ext_get_or}
use Rattle.ranges.specs.Fold.{first_below, tabulate}
use Rattle.ranges.proofs.Order.{lt_or_le, eq_or_ne}
use Rattle.ranges.proofs.First.{first}
use Rattle.ranges.proofs.Tabulate.{length_tabulate, get_d_tabulate, get_d_tabulate_past}
use Rattle.records.specs.declared.Event.{Event}
use Rattle.records.specs.Event.{is_receive, received}
use Rattle.records.proofs.EventKinds.{not_receive}
use Rattle.event_log.specs.Model.{Workers, worker_count, event_count, event_of, IsEvent}
use Rattle.event_log.proofs.Read.{count_past}
use Rattle.record_tests.specs.Records.{send_of}
use Rattle.repeats.proofs.Places.{received_one, received_none}
use Rattle.accept.specs.WellFormed.{WellFormed}
use Rattle.lent.specs.Lent.{at}
use Rattle.causality.specs.Cut.{receives_of, IsCut, Consistent}
use Rattle.lower_cut.specs.Figure2.{lower_cut}
use Rattle.lower_cut.proofs.LowerCut.{lower_is}
use Rattle.intervals.specs.declared.IntervalNumber.{IntervalNumber}
use Rattle.intervals.specs.Interval.{index, interval_at, interval_event, interval_workers}
use Rattle.intervals.specs.IntervalCut.{IsIntervalCut, Closed, IsLeastClosed, receives_of_cut, SameCuts}
use Rattle.intervals.proofs.IntervalModel.{interval_next, interval_few, interval_grows, interval_size, interval_count, interval_event_lem, interval_event_from}

-- there is one least closed interval cut only
least_once : (log : Workers) (i : ℕ) (m : IntervalNumber) (a b : List ℕ) → IsLeastClosed log i m a → IsLeastClosed log i m b → a ≡ b
least_once log i m a b p q =
    ext_get_or 0 a b (p.closed.is_cut.long ∙ sym q.closed.is_cut.long)
    (λ w h. omega (arith, p.least b q.closed q.holds w, q.least a p.closed p.holds w))

module _ (log : Workers) where
  -- the receives of worker w up to event x
  abbrev up_to : ℕ → ℕ → ℕ
  up_to w x = (interval_at log w (index x)).0

  -- fewer receives are up to an earlier event
  fewer_before : (w x y : ℕ) → up_to w x < up_to w y → x < y
  fewer_before w x y h = ⊎_elim (λ l. l) (λ l. let no : ⊥ = omega (arith, interval_grows log w y x l) in absurd no) (lt_or_le x y)

  -- a number for each worker, none above its events: 0 past the last worker
  table_word : (f : ℕ → ℕ) → ((w : ℕ) → f w ≤ event_count log w) → (w : ℕ) → at (tabulate f (worker_count log)) w ≡ f w
  table_word f few w =
      ⊎_elim
      (λ l. get_d_tabulate f (worker_count log) w 0 l)
      (λ l. get_d_tabulate_past f (worker_count log) w 0 l ∙ omega (arith, few w, count_past log w l))
      (lt_or_le w (worker_count log))

  -- ---- the receives within a cut of the log
  abbrev receives_in : List ℕ → List ℕ
  receives_in cut = tabulate (receives_of log cut) (worker_count log)

  module _ (cut : List ℕ) (is : IsCut log cut) where
    receives_word : (w : ℕ) → at (receives_in cut) w ≡ up_to w (at cut w)
    unfolding receives_of
    receives_word = table_word (receives_of log cut) (λ w. omega (arith, interval_few log w (at cut w), is.within w))

    receives_cut : IsIntervalCut (interval_workers log) (receives_in cut)
    receives_cut =
        record {
          long = length_tabulate (receives_of log cut) (worker_count log) ∙ sym (interval_size log);
          within = λ w. omega (arith, receives_word w, interval_grows log w (at cut w) (event_count log w) (is.within w), interval_count log w);
        }

  -- ---- the events whose receives are within an interval cut
  module _ (cut : List ℕ) where
    -- the receives of worker w up to event k + 1 are not
    unfoldable too_many : ℕ → ℕ → Bool
    too_many w k = ltb (at cut w) (up_to w (k + 1))

    -- the events of worker w before the first such one
    unfoldable events_of : ℕ → ℕ
    events_of w = first_below (too_many w) (event_count log w)

    unfoldable events_in : List ℕ
    events_in = tabulate events_of (worker_count log)

    events_count : (w : ℕ) → events_of w ≤ event_count log w
    unfolding events_of
    events_count w = (first (too_many w) (event_count log w)).bound

    events_word : (w : ℕ) → at events_in w ≡ events_of w
    unfolding events_in
    events_word = table_word events_of events_count

    events_cut : IsCut log events_in
    unfolding events_in
    events_cut = record { long = length_tabulate events_of (worker_count log); within = λ w. omega (arith, events_word w, events_count w) }

    -- their receives are within the interval cut
    events_inside : (w : ℕ) → up_to w (at events_in w) ≤ at cut w
    unfolding events_of too_many
    events_inside w =
        rw (events_word w)
        (⊎_elim
        (λ none. omega (arith, interval_few log w (events_of w)))
        (λ some.
        let last : events_of w - 1 + 1 ≡ events_of w = omega arith in
        let before = (first (too_many w) (event_count log w)).before (events_of w - 1) (omega arith) in
        rw last at (ltb-false (at cut w) (up_to w (events_of w - 1 + 1)) before))
        (eq_or_ne (events_of w) 0))

    -- .. and no other event's are
    events_all : (w x : ℕ) → x ≤ event_count log w → up_to w x ≤ at cut w → x ≤ at events_in w
    unfolding events_of too_many
    events_all w x h inside =
        rw (events_word w)
        (⊎_elim
        (λ some.
        let found = ltb-true (at cut w) (up_to w (events_of w + 1)) ((first (too_many w) (event_count log w)).found some) in
        omega (arith, fewer_before w x (events_of w + 1) (omega arith)))
        (λ all. omega arith)
        (lt_or_le (events_of w) (event_count log w)))

module _ (log : Workers) (ok : WellFormed log) where
  -- receive k + 1 of worker w names in the interval log its sender, and the receives up to its send, which is no receive itself
  module _ (w k : ℕ) (h : k < event_count log w) (r : is_receive (event_of log w (k + 1)) ≡ true) where
    named_peer : (event_of (interval_workers log) w (up_to log w k + 1)).peer ≡ (event_of log w (k + 1)).peer
    unfolding interval_event
    named_peer = ap (λ (e : Event). e.peer) (interval_event_lem log w k h r)

    named_send : (event_of (interval_workers log) w (up_to log w k + 1)).send ≡ up_to log (event_of log w (k + 1)).peer (event_of log w (k + 1)).send
    unfolding interval_event send_of
    named_send =
        let e = event_of log w (k + 1) in
        let sent = ok.sent w (k + 1) r in
        let back : e.send - 1 + 1 ≡ e.send = omega (arith, sent.positive) in
        let next : up_to log e.peer e.send ≡ up_to log e.peer (e.send - 1) + received (send_of log e) =
        rw back at (interval_next log e.peer (e.send - 1)) in
        let none = received_none (send_of log e) (not_receive (send_of log e) sent.send) in
        ap (λ (v : Event). v.send) (interval_event_lem log w k h r) ∙ omega arith

  -- the receives within a consistent cut are closed
  receives_closed : (cut : List ℕ) → Consistent log cut → Closed (interval_workers log) (receives_in log cut)
  receives_closed cut good = record { is_cut = receives_cut log cut good.is_cut; named = named }
    where
      word : (w : ℕ) → at (receives_in log cut) w ≡ up_to log w (at cut w)
      word = receives_word log cut good.is_cut

      sent_inside : (w k : ℕ) → k < event_count log w → is_receive (event_of log w (k + 1)) ≡ true → up_to log w k < up_to log w (at cut w)
          → (event_of (interval_workers log) w (up_to log w k + 1)).send ≤ at (receives_in log cut) (event_of (interval_workers log) w (up_to log w k + 1)).peer
      sent_inside w k h r l =
          let e = event_of log w (k + 1) in
          let inside = good.closed w k (fewer_before log w k (at cut w) l) r in
          rw (named_send w k h r, named_peer w k h r) (omega (arith, word e.peer, interval_grows log e.peer e.send (at cut e.peer) inside))

      named : (w j : ℕ) → 0 < j → j ≤ at (receives_in log cut) w
          → (event_of (interval_workers log) w j).send ≤ at (receives_in log cut) (event_of (interval_workers log) w j).peer
      named w j positive l =
          let from = interval_event_from log w j positive (omega (arith, (receives_cut log cut good.is_cut).within w)) in
          rw from.3 at (sent_inside w from.0 from.1 from.2 (omega (arith, from.3, word w)))

  -- the events whose receives are within a closed interval cut are a consistent cut
  events_consistent : (cut : List ℕ) → Closed (interval_workers log) cut → Consistent log (events_in log cut)
  events_consistent cut good =
      record {
        is_cut = events_cut log cut;
        closed = λ w k l r.
            let e = event_of log w (k + 1) in
            let counted : k < event_count log w = omega (arith, (events_cut log cut).within w) in
            let below : up_to log w k + 1 ≤ at cut w =
            omega (
              arith,
              interval_next log w k,
              received_one e r,
              interval_grows log w (k + 1) (at (events_in log cut) w) (omega arith),
              events_inside log cut w,
            ) in
            let named : up_to log e.peer e.send ≤ at cut e.peer =
            rw (named_send w k counted r, named_peer w k counted r) at (good.named w (up_to log w k + 1) (omega arith) below) in
            events_all log cut e.peer e.send (ok.sent w (k + 1) r).counted named;
      }

  -- the receives within the lower cut are closed, and within every closed interval cut that holds the event's interval
  receives_least : (i e : ℕ) → IsEvent log i e → IsLeastClosed (interval_workers log) i (interval_at log i (index e)) (receives_of_cut log i e)
  unfolding receives_of_cut
  receives_least i e event =
      let cut = lower_cut log i e in
      let lower = lower_is log ok i e event in
      let word = receives_word log cut lower.consistent.is_cut in
      record {
        closed = receives_closed cut lower.consistent;
        holds = omega (arith, word i, interval_grows log i e (at cut i) lower.holds);
        least = λ other good h w.
            let within = lower.least (events_in log other) (events_consistent other good) (events_all log other i e event.1 h) w in
            omega (arith, word w, interval_grows log w (at cut w) (at (events_in log other) w) within, events_inside log other w);
      }

-- "the least closed interval cut that holds the breakpoint's interval .. equals, worker by worker, the receives within the lower cut"
pub least_closed : (log : Workers) → WellFormed log → SameCuts log (interval_workers log)
least_closed log ok i e event =
    let is = receives_least log ok i e event in
    record { is = is; only = λ cut other. least_once (interval_workers log) i (interval_at log i (index e)) cut (receives_of_cut log i e) other is }
