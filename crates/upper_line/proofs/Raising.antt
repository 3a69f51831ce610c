-- A line that is raised event by event passes no event that the breakpoint event happened before; where it stops at such events alone, or
-- at the last events, it is the upper line. Assumes nothing.
use mathlib.Core.Path.{◌≡◌, refl, sym, ◌∙◌, ap}
use mathlib.Core.Logic.{◌⊎◌, inl, inr, ⊎_elim, ◌≢◌}
use mathlib.Core.Bool.{Bool, true, false, not, ◌&&◌, ◌||◌, false≢true}
use mathlib.Core.List.{List}
use Prim.Native.Nat.{ℕ, ◌+◌, ◌*◌, ◌-◌, ◌<◌, ◌≤◌}
use native.Mathlib.Nat.{le_antisymm, le_trans, lt_of_lt_of_le}
use native.Mathlib.Omega.{arith}
use borrow.Author.Tests.{ltb-true, ltb-false, le-ltb, eqb-true, eq-eqb}
use lib.Dec.{eqb, ltb}
use lib.ListN.{length, set, replicate, length-set, length-replicate}
use lib.Seq.{get_or-set_same, ext_get_or}
use Rattle.ranges.proofs.Bools.{and_true_left, and_true_right, and_false_right, or_false_left, or_false_right, said_false, said_true}
use Rattle.ranges.proofs.Order.{lt_or_le, eq_or_ne}
use Rattle.ranges.proofs.Store.{set_cases, set_grows}
use Rattle.ranges.proofs.Sum.{sum_lt}
use Rattle.ranges.proofs.Tabulate.{get_d_replicate_all}
use Rattle.records.specs.declared.Event.{Event}
use Rattle.event_log.specs.Limits.{max_workers, max_events}
use Rattle.event_log.specs.Model.{Workers, worker_count, event_count, event_of, IsEvent}
use Rattle.records.specs.Event.{is_receive}
use Rattle.event_log.proofs.Read.{worker_within}
use Rattle.accept.specs.WellFormed.{WellFormed}
use Rattle.accept.proofs.Stamps.{stamps_grow}
use Rattle.causality.specs.Happened.{HappenedBefore, earlier, message, through}
use Rattle.lent.specs.Lent.{at}
use Rattle.causality.specs.Cut.{IsCut, Consistent, Within}
use Rattle.lower_cut.specs.Inner.Visiting.{word_sum}
use Rattle.upper_line.specs.Inner.Raising.{blocked, Passed, Stuck, Raised}
use Rattle.upper_line.specs.Upper.{upper_line}
use Rattle.causality.proofs.Order.{Rising, receive_event, index_less, send_rises, happened_rises, happened_to}
use Rattle.lower_cut.proofs.VisitCount.{words_few}
use Rattle.upper_line.proofs.UpperLine.{upper_happened, upper_consistent}

-- what the test on a receive says where it holds, and where it does not
either : (bound send peer i e : ℕ) → (ltb bound send || (eqb peer i && eqb send e)) ≡ true → ((peer ≡ i) × (send ≡ e)) ⊎ (bound < send)
either bound send peer i e t = go (ltb bound send) refl t
  where
    go : (b : Bool) → ltb bound send ≡ b → (b || (eqb peer i && eqb send e)) ≡ true → ((peer ≡ i) × (send ≡ e)) ⊎ (bound < send)
    go true p t = inr (ltb-true bound send p)
    go false p t = inl (eqb-true peer i (and_true_left (eqb peer i) (eqb send e) t), eqb-true send e (and_true_right (eqb peer i) (eqb send e) t))

neither : (bound send peer i e : ℕ) → (ltb bound send || (eqb peer i && eqb send e)) ≡ false → (send ≤ bound) × (((peer ≡ i) × (send ≡ e)) → ⊥)
neither bound send peer i e t = (
  ltb-false bound send (or_false_left (ltb bound send) (eqb peer i && eqb send e) t),
  λ same. false≢true (sym (rw (eq-eqb peer i same.0, eq-eqb send e same.1) at (or_false_right (ltb bound send) (eqb peer i && eqb send e) t))),
)

-- a larger bound keeps the test from holding
looser : (bound larger send peer i e : ℕ) → bound ≤ larger → (ltb bound send || (eqb peer i && eqb send e)) ≡ false → (ltb larger send || (eqb peer i && eqb send e)) ≡ false
looser bound larger send peer i e h t =
    let inside = (neither bound send peer i e t).0 in
    rw (le-ltb larger send (omega arith)) (or_false_right (ltb bound send) (eqb peer i && eqb send e) t)

-- worker w is at its last event, or stuck
abbrev pub Stopped : Workers → ℕ → ℕ → List ℕ → ℕ → Type 0
Stopped log i e line w = (event_count log w ≤ at line w) ⊎ Stuck log i e line w

module _ (log : Workers) (i e : ℕ) where
  -- why an event is blocked
  blocked_by : (line : List ℕ) (w k : ℕ) → blocked log i e line w k ≡ true
      → (is_receive (event_of log w (k + 1)) ≡ true)
      × ((((event_of log w (k + 1)).peer ≡ i) × ((event_of log w (k + 1)).send ≡ e)) ⊎ (at line (event_of log w (k + 1)).peer < (event_of log w (k + 1)).send))
  unfolding blocked
  blocked_by line w k t =
      let event = event_of log w (k + 1) in
      let tests = ltb (at line event.peer) event.send || (eqb event.peer i && eqb event.send e) in
      (and_true_left (is_receive event) tests t, either _ event.send event.peer i e (and_true_right (is_receive event) tests t))

  -- a receive that is not blocked has its send within the line, and is not of the breakpoint event's message
  blocked_not : (line : List ℕ) (w k : ℕ) → blocked log i e line w k ≡ false → is_receive (event_of log w (k + 1)) ≡ true
      → ((event_of log w (k + 1)).send ≤ at line (event_of log w (k + 1)).peer) × ((((event_of log w (k + 1)).peer ≡ i) × ((event_of log w (k + 1)).send ≡ e)) → ⊥)
  unfolding blocked
  blocked_not line w k t r =
      let event = event_of log w (k + 1) in
      let tests = ltb (at line event.peer) event.send || (eqb event.peer i && eqb event.send e) in
      neither _ event.send event.peer i e (and_false_right (is_receive event) tests t r)

  -- what is not blocked is not blocked by a larger line
  blocked_falls : (line new : List ℕ) → Within line new → (w k : ℕ) → blocked log i e line w k ≡ false → blocked log i e new w k ≡ false
  unfolding blocked
  blocked_falls line new grown w k t = go (is_receive (event_of log w (k + 1))) refl
    where
      go : (b : Bool) → is_receive (event_of log w (k + 1)) ≡ b → blocked log i e new w k ≡ false
      go true q = rw q (looser _ _ (event_of log w (k + 1)).send _ i e (grown (event_of log w (k + 1)).peer) (rw q at t))
      go false q = rw q

  -- one event more of a worker whose next event is not blocked
  pub passed_more : (line : List ℕ) (w : ℕ) → Passed log i e line → w ≢ i → at line w < event_count log w → blocked log i e line w (at line w) ≡ false
      → Passed log i e (set line w (at line w + 1)) × Within line (set line w (at line w + 1)) × (word_sum log line < word_sum log (set line w (at line w + 1)))
  unfolding word_sum
  passed_more line w p other less t = (
    record {
      is_cut = record { long = simp length-set p.is_cut.long; within = λ v. ⊎_elim (at_count v) (λ c. omega (arith, c.1, p.is_cut.within v)) (cases v) };
      own = ⊎_elim (λ c. absurd (other (sym c.0))) (λ c. c.1 ∙ p.own) (cases i);
      free = λ v j away h. blocked_falls line new grown v j (⊎_elim (at_free v j away h) (λ c. p.free v j away (omega (arith, c.1))) (cases v));
    },
    grown,
    sum_lt (at line) (at new) (worker_count log) (λ v l. grown v) w (worker_within log w (at line w) less) (omega (arith, same)),
  )
    where
      new : List ℕ
      new = set line w (at line w + 1)

      inside : w < length line
      inside = rw p.is_cut.long (worker_within log w (at line w) less)

      same : at (set line w (at line w + 1)) w ≡ at line w + 1
      same = get_or-set_same line w (at line w + 1) 0 inside

      grown : Within line (set line w (at line w + 1))
      grown = set_grows line w (at line w + 1) (omega arith)

      cases : (v : ℕ) → ((v ≡ w) × (at (set line w (at line w + 1)) v ≡ at line w + 1)) ⊎ ((v ≢ w) × (at (set line w (at line w + 1)) v ≡ at line v))
      cases v = set_cases line w (at line w + 1) 0 v inside

      at_count : (v : ℕ) → (v ≡ w) × (at (set line w (at line w + 1)) v ≡ at line w + 1) → at (set line w (at line w + 1)) v ≤ event_count log v
      at_count v c = rw (c.0, same) (omega arith)

      at_free : (v j : ℕ) → v ≢ i → j < at (set line w (at line w + 1)) v → (v ≡ w) × (at (set line w (at line w + 1)) v ≡ at line w + 1) → blocked log i e line v j ≡ false
      at_free v j away h c =
          ⊎_elim (λ less. p.free v j away (let same : at line v ≡ at line w = ap (at line) c.0 in omega arith))
          (λ l. let last : j ≡ at line w = omega (arith, c.1) in rw (c.0, last) t) (lt_or_le j (at line w))

  -- the words before any is raised: the breakpoint event for its worker, and 0 elsewhere
  pub passed_first : i < worker_count log → IsEvent log i e → Passed log i e (set (replicate (worker_count log) 0) i e)
  passed_first h event =
      record {
        is_cut = record {
          long = simp length-set (length-replicate (worker_count log) 0);
          within = λ w. ⊎_elim (λ c. rw (c.0, get_or-set_same zeros i e 0 inside) event.1) (λ c. omega (arith, c.1, none w)) (cases w);
        };
        own = get_or-set_same zeros i e 0 inside;
        free = λ w k other less. ⊎_elim (λ c. absurd (other c.0)) (λ c. let no : ⊥ = omega (arith, c.1, none w) in absurd no) (cases w);
      }
    where
      zeros : List ℕ
      zeros = replicate (worker_count log) 0

      inside : i < length (replicate {A = ℕ} (worker_count log) 0)
      inside = rw (length-replicate {A = ℕ} (worker_count log) 0) h

      none : (w : ℕ) → at (replicate (worker_count log) 0) w ≡ 0
      none w = get_d_replicate_all (worker_count log) w 0

      cases : (w : ℕ) → ((w ≡ i) × (at (set (replicate (worker_count log) 0) i e) w ≡ e)) ⊎ ((w ≢ i) × (at (set (replicate (worker_count log) 0) i e) w ≡ at (replicate (worker_count log) 0) w))
      cases w = set_cases (replicate (worker_count log) 0) i e 0 w inside

  module _ (ok : WellFormed log) (event : IsEvent log i e) where
    module _ (line : List ℕ) (p : Passed log i e line) where
      -- event x of worker u is the breakpoint event, or past the line and the breakpoint event happened before it
      abbrev After : ℕ → ℕ → Type 0
      After u x = ((u ≡ i) × (x ≡ e)) ⊎ (HappenedBefore log i e u x × (at line u < x))

      after : {u x w y : ℕ} → HappenedBefore log u x w y → After u x → HappenedBefore log i e w y
      after b h = ⊎_elim (λ same. rw (same.0, same.1) at b) (λ a. through a.0 b) h

      -- each event that such an event happened before is past the line
      past : {u x w y : ℕ} → HappenedBefore log u x w y → After u x → at line w < y
      past (earlier {w} positive less bound) h =
          ⊎_elim (λ same. let own : at line w ≡ e = ap (at line) same.0 ∙ p.own in omega (arith, same.1)) (λ a. omega (arith, a.1)) h
      past (message {v} {s} {w} {x} r from sent) h = ⊎_elim own (λ other. ⊎_elim (λ less. less) (inside other) (lt_or_le (at line w) x)) (eq_or_ne w i)
        where
          own : w ≡ i → at line w < x
          own q =
              let later = index_less log ok i e x event.1 (happened_rises log ok (rw q at (after (message r from sent) h))).stamps in
              let here : at line w ≡ e = ap (at line) q ∙ p.own in
              omega arith

          inside : w ≢ i → x ≤ at line w → at line w < x
          inside other l =
              let positive = receive_event log w x r in
              let x_eq : x - 1 + 1 ≡ x = omega arith in
              let free = (rw x_eq at (blocked_not line w (x - 1) (p.free w (x - 1) other (omega arith)))) r in
              ⊎_elim (λ same. absurd (free.1 (from ∙ same.0, sent ∙ same.1)))
              (λ a. let within = rw (from, sent) at free.0 in let no : ⊥ = omega (arith, a.1) in absurd no) h
      past (through a b) h = past b (inr (after a h, past a h))

      -- no event that the breakpoint event happened before is within the line
      passed_before : {w x : ℕ} → HappenedBefore log i e w x → at line w < x
      passed_before b = past b (inl (refl, refl))

      -- a worker whose next event the breakpoint event happened before is moved on no more
      stuck_stays : (k w : ℕ) → k ≤ at line w → HappenedBefore log i e w (k + 1) → Stuck log i e line w
      stuck_stays k w h b = let same : at line w ≡ k = omega (arith, passed_before b) in rw same b

      -- the breakpoint's own worker is stuck, or at its last event
      pub raised_own : Raised log i e i (event_count log i) line line
      raised_own =
          record {
            passed = p;
            grown = λ w. omega arith;
            reached = ⊎_elim (λ (less : e < event_count log i). inr (rw p.own (earlier {w = i} {y = e + 1} event.0 (omega arith) (omega arith))))
                (λ l. inl (omega (arith, p.own))) (lt_or_le e (event_count log i));
          }

-- what the loop over the workers keeps: the first w of the n workers can be moved on no more
pub record Lined (log : Workers) (i e n : ℕ) (line : List ℕ) (w : ℕ) : Type 0 where
  pub ok : WellFormed log
  pub event : IsEvent log i e
  pub size : n ≡ worker_count log
  pub few : w ≤ n
  pub passed : Passed log i e line
  pub stopped : (v : ℕ) → v < w → Stopped log i e line v

pub lined_first : {log : Workers} {i e n : ℕ} {line : List ℕ} → WellFormed log → IsEvent log i e → n ≡ worker_count log → Passed log i e line → Lined log i e n line 0
lined_first ok event size p =
    record { ok = ok; event = event; size = size; few = omega arith; passed = p; stopped = λ v less. let no : ⊥ = omega arith in absurd no }

module _ {log : Workers} {i e n : ℕ} {line : List ℕ} {w : ℕ} (l : Lined log i e n line w) where
  -- one worker more, when it has been moved on as far as it can go
  pub lined_more : w < n → {new : List ℕ} → Raised log i e w (event_count log w) line new → Lined log i e n new (w + 1)
  lined_more h {new} up =
      record { ok = l.ok; event = l.event; size = l.size; few = omega arith; passed = up.passed; stopped = stopped }
    where
      stopped : (v : ℕ) → v < w + 1 → Stopped log i e new v
      stopped v inside =
          ⊎_elim
          (λ less.
          ⊎_elim (λ end. inl (omega (arith, up.grown v)))
          (λ stuck. inr (stuck_stays log i e l.ok l.event new up.passed (at line v) v (up.grown v) stuck)) (l.stopped v less))
          (λ last. let here : v ≡ w = omega arith in rw here up.reached)
          (lt_or_le v w)

  -- where none can, the line is the upper line
  pub lined_upper : n ≤ w → line ≡ upper_line log i e
  lined_upper all =
      ext_get_or 0 line (upper_line log i e) (l.passed.is_cut.long ∙ sym upper.is_cut.long)
      (λ v h. le_antisymm (inside v) (whole v (rw l.passed.is_cut.long at h)))
    where
      upper : Consistent log (upper_line log i e)
      upper = upper_consistent log l.ok i e l.event

      inside : (v : ℕ) → at line v ≤ at (upper_line log i e) v
      inside v =
          ⊎_elim
          (λ positive.
          (upper_happened log l.ok i e l.event v (at line v) (positive, l.passed.is_cut.within v)).1
          (λ b. let less = passed_before log i e l.ok l.event line l.passed b in omega arith))
          (λ none. omega arith)
          (lt_or_le 0 (at line v))

      whole : (v : ℕ) → v < worker_count log → at (upper_line log i e) v ≤ at line v
      whole v h =
          ⊎_elim (λ end. omega (arith, upper.is_cut.within v))
          (λ stuck.
          ⊎_elim (λ less. absurd ((upper_happened log l.ok i e l.event v (at line v + 1) (happened_rises log l.ok stuck).second).0 (omega arith) stuck))
          (λ most. most)
          (lt_or_le (at line v) (at (upper_line log i e) v)))
          (l.stopped v (omega (arith, l.size)))

-- what the loop that moves worker w on keeps: `first` is the line that it began with
pub record Moving (log : Workers) (i e w target : ℕ) (first line : List ℕ) : Type 0 where
  pub ok : WellFormed log
  pub event : IsEvent log i e
  pub within : w < worker_count log
  pub other : w ≢ i
  pub bound : target ≤ event_count log w
  pub began : Passed log i e first
  pub passed : Passed log i e line
  pub grown : Within first line

-- how far a line can still be raised
abbrev pub left : Workers → List ℕ → ℕ
left log line = max_workers * max_events - word_sum log line

module _ {log : Workers} {i e w target : ℕ} {first line : List ℕ} (m : Moving log i e w target first line) where
  pub moved : {new : List ℕ} → Passed log i e new → Within line new → Moving log i e w target first new
  moved p up =
      record {
        ok = m.ok;
        event = m.event;
        within = m.within;
        other = m.other;
        bound = m.bound;
        began = m.began;
        passed = p;
        grown = λ v. le_trans (m.grown v) (up v);
      }

  less_left : {new : List ℕ} → IsCut log new → word_sum log line < word_sum log new → left log new < left log line
  less_left is rises = omega (arith, words_few log m.ok _ is)

  -- the loop ends: worker w is at the target, or can be moved on no more
  pub moving_ends : (target ≤ at line w) ⊎ Stuck log i e line w → Raised log i e w target first line
  moving_ends end = record { passed = m.passed; grown = m.grown; reached = end }

  module _ (less : at line w < target) where
    -- worker w's next event is not blocked
    module _ {b : Bool} (said : b ≡ blocked log i e line w (at line w)) (test : not b ≡ true) where
      stepped : Passed log i e (set line w (at line w + 1)) × Within line (set line w (at line w + 1)) × (word_sum log line < word_sum log (set line w (at line w + 1)))
      stepped = passed_more log i e line w m.passed m.other (lt_of_lt_of_le less m.bound) (said_false said test)

      pub stepped_on : Moving log i e w target first (set line w (at line w + 1))
      stepped_on = moved stepped.0 stepped.1

      pub stepped_less : left log (set line w (at line w + 1)) < left log line
      stepped_less = less_left stepped.0.is_cut stepped.2

    -- it is blocked
    module _ {b : Bool} (said : b ≡ blocked log i e line w (at line w)) (test : not b ≡ false) {next : Event} (found : next ≡ event_of log w (at line w + 1)) where
      awaited_for : (is_receive next ≡ true) × (((next.peer ≡ i) × (next.send ≡ e)) ⊎ (at line next.peer < next.send))
      awaited_for = rw found (blocked_by log i e line w (at line w) (said_true said test))

      awaited : Rising log next.peer next.send w (at line w + 1)
      awaited = rw found (send_rises log m.ok w (at line w + 1) (rw found at awaited_for.0))

      awaited_message : HappenedBefore log next.peer next.send w (at line w + 1)
      awaited_message = rw found (message (rw found at awaited_for.0) refl refl)

      -- the awaited send is an event of the log, with a smaller stamp than the target
      pub awaited_send : ((event_of log next.peer next.send).stamp < (event_of log w target).stamp)
          × (next.peer < worker_count log) × (next.send ≤ event_count log next.peer)
      awaited_send = (
        omega (arith, awaited.stamps, stamps_grow log m.ok w (at line w + 1) target (omega arith) m.bound),
        worker_within log next.peer 0 (omega (arith, awaited.first.0, awaited.first.1)),
        awaited.first.1,
      )

      -- the breakpoint's own worker sent the message
      pub awaited_own : next.peer ≡ i → Stuck log i e line w
      awaited_own same =
          ⊎_elim (λ own. rw (own.0, own.1) at awaited_message)
          (λ beyond.
          let here : at line next.peer ≡ e = ap (at line) same ∙ m.passed.own in
          through (earlier m.event.0 (omega arith) (rw same at awaited.first.1)) (rw same at awaited_message))
          awaited_for.1

      -- another worker sent it, and was moved on ..
      module _ {new : List ℕ} (up : Raised log i e next.peer next.send line new) where
        -- .. to the send
        pub awaited_less : next.peer ≢ i → next.send ≤ at new next.peer → left log new < left log line
        unfolding word_sum
        awaited_less other there =
            less_left up.passed.is_cut
            (sum_lt (at line) (at new) (worker_count log) (λ v l. up.grown v) next.peer awaited_send.1
            (⊎_elim (λ own. absurd (other own.0)) (λ beyond. omega arith) awaited_for.1))

        -- .. not as far
        pub awaited_stuck : at new next.peer < next.send → Stuck log i e new w
        awaited_stuck short =
            ⊎_elim (λ there. let no : ⊥ = omega arith in absurd no)
            (λ stuck.
            let before = happened_to log m.ok (at new next.peer + 1) next.send (omega arith) awaited_send.2 stuck in
            stuck_stays log i e m.ok m.event new up.passed (at line w) w (up.grown w) (through before awaited_message))
            up.reached
