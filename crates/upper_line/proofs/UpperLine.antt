-- The upper line holds exactly the events that the breakpoint event did not happen before; it is consistent and holds the lower cut,
-- and is the one line that is closed and cannot be extended. Assumes nothing.
use mathlib.Core.Path.{◌≡◌, refl, sym, ◌∙◌, ap}
use mathlib.Core.Logic.{◌⊎◌, inl, inr, ⊎_elim, ◌≢◌, ◌↔◌}
use mathlib.Core.Bool.{Bool, true, false, not, ◌&&◌, false≢true}
use mathlib.Core.List.{List}
use Prim.Native.Nat.{ℕ, zero, suc, ◌+◌, ◌-◌, ◌<◌, ◌≤◌}
use native.Mathlib.Nat.{not-suc-le-zero, eq-or-lt_of_le}
use native.Mathlib.Omega.{arith}
use borrow.Author.Tests.{eq-eqb, eqb-true, le-leb, leb-true}
use lib.Dec.{eqb, leb}
use lib.Seq.{ext_get_or}
use Rattle.ranges.specs.Fold.{first_below}
use Rattle.ranges.proofs.First.{IsFirst, first}
use Rattle.ranges.proofs.Order.{lt_or_le, eq_or_ne}
use Rattle.ranges.proofs.Tabulate.{length_tabulate, get_d_tabulate, get_d_tabulate_past}
use Rattle.event_log.specs.Model.{Workers, worker_count, event_count, event_of, IsEvent}
use Rattle.records.specs.Event.{is_receive}
use Rattle.event_log.proofs.Read.{worker_within}
use Rattle.accept.specs.WellFormed.{WellFormed}
use Rattle.causality.specs.Happened.{HappenedBefore, earlier, message, through}
use Rattle.lent.specs.Lent.{at}
use Rattle.causality.specs.Cut.{IsCut, Consistent, Within}
use Rattle.lower_cut.specs.Figure2.{lower_cut}
use Rattle.upper_line.specs.Upper.{happened, upper_at, upper_line}
use Rattle.causality.proofs.Order.{receive_event, send_rises, happened_rises, happened_irreflexive, happened_to, Through, happened_last, consistent_holds}
use Rattle.lower_cut.proofs.LowerCut.{lower_is, lower_happened}

-- a line that is closed and cannot be extended: the words are a cut that ends at the breakpoint event, ..
pub record IsUpper (log : Workers) (i e : ℕ) (line : List ℕ) : Type 0 where
  pub is_cut : IsCut log line
  pub own : at line i ≡ e
  -- .. every receive within them has its send within them, and is not of the breakpoint event's message, ..
  pub closed : (w k : ℕ) → k < at line w → is_receive (event_of log w (k + 1)) ≡ true
      → ((event_of log w (k + 1)).send ≤ at line (event_of log w (k + 1)).peer) × ((((event_of log w (k + 1)).peer ≡ i) × ((event_of log w (k + 1)).send ≡ e)) → ⊥)
  -- .. and each other worker's next event is a receive of the breakpoint event's message, or of a send that is not within them
  pub maximal : (w : ℕ) → w ≢ i → at line w < event_count log w
      → (is_receive (event_of log w (at line w + 1)) ≡ true)
      × ((((event_of log w (at line w + 1)).peer ≡ i) × ((event_of log w (at line w + 1)).send ≡ e))
      ⊎ (at line (event_of log w (at line w + 1)).peer < (event_of log w (at line w + 1)).send))

-- the test that (i, e) and (w, x) are two events
another : (i e w x : ℕ) → (not (eqb i w && eqb e x) ≡ true) ↔ (((i ≡ w) × (e ≡ x)) → ⊥)
another i e w x = (λ t same. false≢true (rw (eq-eqb i w same.0, eq-eqb e x same.1) at t), λ n. test (eqb i w) refl (eqb e x) refl n)
  where
    test : (b : Bool) → eqb i w ≡ b → (c : Bool) → eqb e x ≡ c → (((i ≡ w) × (e ≡ x)) → ⊥) → not (b && c) ≡ true
    test true p true q n = absurd (n (eqb-true i w p, eqb-true e x q))
    test true p false q n = refl
    test false p c q n = refl

module _ (log : Workers) (ok : WellFormed log) (i e : ℕ) (event : IsEvent log i e) where
  -- the test of the upper line is "happened before"
  pub happened_test : (w k : ℕ) → k < event_count log w → (happened log i e w k ≡ true) ↔ HappenedBefore log i e w (k + 1)
  unfolding happened
  happened_test w k h = (to (leb e (at (lower_cut log w (k + 1)) i)) refl, from)
    where
      lower : (e ≤ at (lower_cut log w (k + 1)) i) ↔ (((i ≡ w) × (e ≡ k + 1)) ⊎ HappenedBefore log i e w (k + 1))
      lower = lower_happened log ok w (k + 1) (omega arith, omega arith) i e event

      to : (b : Bool) → leb e (at (lower_cut log w (k + 1)) i) ≡ b → (b && not (eqb i w && eqb e (k + 1))) ≡ true → HappenedBefore log i e w (k + 1)
      to true p t = ⊎_elim (λ same. absurd ((another i e w (k + 1)).0 t same)) (λ b. b) (lower.0 (leb-true e (at (lower_cut log w (k + 1)) i) p))
      to false p t = absurd (false≢true t)

      from : HappenedBefore log i e w (k + 1) → happened log i e w k ≡ true
      from b =
          rw (le-leb e (at (lower_cut log w (k + 1)) i) (lower.1 (inr b)))
          ((another i e w (k + 1)).1 (λ same. happened_irreflexive log ok (rw (sym same.0, sym same.1) at b)))

  upper_word : (w : ℕ) → w < worker_count log → at (upper_line log i e) w ≡ first_below (happened log i e w) (event_count log w)
  unfolding upper_line upper_at
  upper_word w h = get_d_tabulate (upper_at log i e) (worker_count log) w 0 h

  -- an event is within the upper line exactly when the breakpoint event did not happen before it
  pub upper_happened : (w x : ℕ) → IsEvent log w x → (x ≤ at (upper_line log i e) w) ↔ (HappenedBefore log i e w x → ⊥)
  upper_happened w x is = (to, from)
    where
      word : at (upper_line log i e) w ≡ first_below (happened log i e w) (event_count log w)
      word = upper_word w (worker_within log w 0 (omega arith))

      f : IsFirst (happened log i e w) (event_count log w) (first_below (happened log i e w) (event_count log w))
      f = first (happened log i e w) (event_count log w)

      to : x ≤ at (upper_line log i e) w → HappenedBefore log i e w x → ⊥
      to h b =
          let x_eq : x - 1 + 1 ≡ x = omega arith in
          let t = (happened_test w (x - 1) (omega arith)).1 (rw x_eq b) in
          false≢true (sym (f.before (x - 1) (omega (arith, word))) ∙ t)

      from : (HappenedBefore log i e w x → ⊥) → x ≤ at (upper_line log i e) w
      from n =
          ⊎_elim
          (λ less.
          let u = first_below (happened log i e w) (event_count log w) in
          let b = (happened_test w u (omega (arith, word))).0 (f.found (omega (arith, word))) in
          absurd (n (happened_to log ok (u + 1) x (omega (arith, word)) is.1 b)))
          (λ l. l)
          (lt_or_le (at (upper_line log i e) w) x)

  upper_cut : IsCut log (upper_line log i e)
  unfolding upper_line
  upper_cut =
      record {
        long = length_tabulate (upper_at log i e) (worker_count log);
        within = λ w.
            ⊎_elim (λ inside. omega (arith, upper_word w inside, (first (happened log i e w) (event_count log w)).bound))
            (λ past. omega (arith, get_d_tabulate_past (upper_at log i e) (worker_count log) w 0 past)) (lt_or_le w (worker_count log));
      }

  -- the upper line ends at the breakpoint event on its own worker
  pub upper_own : at (upper_line log i e) i ≡ e
  upper_own =
      let holds = (upper_happened i e event).1 (happened_irreflexive log ok) in
      ⊎_elim
      (λ less.
      let next : IsEvent log i (suc e) = (omega arith, omega (arith, upper_cut.within i)) in
      absurd ((upper_happened i (suc e) next).0 less (earlier event.0 (omega arith) next.1)))
      (λ l. omega arith)
      (lt_or_le e (at (upper_line log i e) i))

  -- the upper line is a consistent cut
  pub upper_consistent : Consistent log (upper_line log i e)
  upper_consistent =
      record {
        is_cut = upper_cut;
        closed = λ w k h r.
            (upper_happened (event_of log w (k + 1)).peer (event_of log w (k + 1)).send (send_rises log ok w (k + 1) r).first).1
            (λ b. (upper_happened w (k + 1) (receive_event log w (k + 1) r)).0 (omega arith) (through b (message r refl refl)));
      }

  -- the lower cut is within the upper line
  pub lower_upper : Within (lower_cut log i e) (upper_line log i e)
  lower_upper w = go (at (lower_cut log i e) w) refl
    where
      go : (x : ℕ) → at (lower_cut log i e) w ≡ x → x ≤ at (upper_line log i e) w
      go zero q = omega arith
      go (suc x) q =
          let is : IsEvent log w (suc x) = (omega arith, omega (arith, (lower_is log ok i e event).consistent.is_cut.within w)) in
          (upper_happened w (suc x) is).1
          (λ b. ⊎_elim (λ same. happened_irreflexive log ok (rw (same.0, same.1) at b)) (λ a. happened_irreflexive log ok (through a b))
          ((lower_happened log ok i e event w (suc x) is).0 (omega arith)))

  -- the first event beyond the line: a receive through which the breakpoint event comes, and no earlier one
  upper_next : (w : ℕ) → w ≢ i → at (upper_line log i e) w < event_count log w
      → (z : ℕ) × (z ≡ at (upper_line log i e) w + 1) × Through log i e w (at (upper_line log i e) w + 1) z
  upper_next w other less =
      let u = at (upper_line log i e) w in
      let word = upper_word w (worker_within log w u less) in
      let b = (happened_test w u less).0 (rw word ((first (happened log i e w) (event_count log w)).found (rw word at less))) in
      ⊎_elim (λ same. absurd (other (sym same.0))) (λ t. (t.0, last t.0 t.1, t.1)) (happened_last b)
    where
      last : (z : ℕ) → Through log i e w (at (upper_line log i e) w + 1) z → z ≡ at (upper_line log i e) w + 1
      last z t =
          let sent = ⊎_elim (λ c. message t.receive c.0 c.1) (λ b. through b (message t.receive refl refl)) t.send in
          ⊎_elim (λ beyond. omega (arith, t.bound)) (λ l. absurd ((upper_happened w z (receive_event log w z t.receive)).0 l sent))
          (lt_or_le (at (upper_line log i e) w) z)

  -- the upper line is such a line
  pub upper_is : IsUpper log i e (upper_line log i e)
  upper_is =
      record {
        is_cut = upper_cut;
        own = upper_own;
        closed = λ w k h r. (
          upper_consistent.closed w k h r,
          λ same. (upper_happened w (k + 1) (receive_event log w (k + 1) r)).0 (omega arith) (message r same.0 same.1),
        );
        maximal = λ w other less.
            let t = upper_next w other less in
            let here = rw t.1 at t.2 in (
              here.receive,
              ⊎_elim inl
                  (λ b. inr (⊎_elim (λ l. l) (λ l. absurd ((upper_happened _ _ (happened_rises log ok b).second).0 l b))
                  (lt_or_le (at (upper_line log i e) (event_of log w (at (upper_line log i e) w + 1)).peer) (event_of log w (at (upper_line log i e) w + 1)).send)))
                  here.send,
            );
      }

  module _ (line : List ℕ) (is : IsUpper log i e line) where
    line_consistent : Consistent log line
    line_consistent = record { is_cut = is.is_cut; closed = λ w k h r. (is.closed w k h r).0 }

    -- nothing within the line has the breakpoint event before it
    line_before : {u x w y : ℕ} → HappenedBefore log u x w y → u ≡ i → x ≡ e → y ≤ at line w → ⊥
    line_before (earlier {w} positive less bound) p q h = let own : at line w ≡ e = ap (at line) p ∙ is.own in omega arith
    line_before (message {v} {s} {w} {x} r a b) p q h =
        let positive = receive_event log w x r in
        let x_eq : x - 1 + 1 ≡ x = omega arith in
        ((rw x_eq at (is.closed w (x - 1) (omega arith))) r).1 (a ∙ p, b ∙ q)
    line_before (through a b) p q h = line_before a p q (consistent_holds log ok line line_consistent b h)

    -- all events beyond the line have it before them
    line_beyond : (bound w x : ℕ) → (event_of log w x).stamp < bound → at line w < x → x ≤ event_count log w → HappenedBefore log i e w x
    line_beyond zero w x small less l = absurd (not-suc-le-zero small)
    line_beyond (suc bound) w x small less l = ⊎_elim own (next (line_beyond bound)) (eq_or_ne w i)
      where
        own : w ≡ i → HappenedBefore log i e w x
        own q =
            let after : e < x = let word : at line w ≡ e = ap (at line) q ∙ is.own in omega arith in
            rw q (earlier event.0 after (rw q at l))

        next : ((v y : ℕ) → (event_of log v y).stamp < bound → at line v < y → y ≤ event_count log v → HappenedBefore log i e v y) → w ≢ i → HappenedBefore log i e w x
        next recur other =
            let m = is.maximal w other (omega arith) in
            let sent = happened_to log ok (at line w + 1) x (omega arith) l (message m.0 refl refl) in
            let rising = happened_rises log ok sent in
            ⊎_elim (λ same. rw (same.0, same.1) at sent) (λ beyond. through (recur _ _ (omega (arith, rising.stamps)) beyond rising.first.1) sent) m.1

  -- there is one such line only
  pub upper_unique : (line : List ℕ) → IsUpper log i e line → line ≡ upper_line log i e
  upper_unique line is =
      ext_get_or 0 line (upper_line log i e) (is.is_cut.long ∙ sym upper_cut.long)
      (λ w h.
      let a = at line w in
      let b = at (upper_line log i e) w in
      ⊎_elim
      (λ less.
      let next : IsEvent log w (suc a) = (omega arith, omega (arith, upper_cut.within w)) in
      absurd ((upper_happened w (suc a) next).0 less (line_beyond line is (suc (event_of log w (suc a)).stamp) w (suc a) (omega arith) (omega arith) next.1)))
      (λ l. ⊎_elim (λ q. sym q)
      (λ less.
      let here : IsEvent log w a = (omega arith, is.is_cut.within w) in
      let inside = (upper_happened w a here).1 (λ b. line_before line is b refl refl (omega arith)) in
      let no : ⊥ = omega arith in absurd no)
      (eq-or-lt_of_le l))
      (lt_or_le a b))
