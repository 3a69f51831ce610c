-- One step of the machine: when it is done, what it changes, and that positions stay from the starts to the cut.
-- Assumes nothing.
use mathlib.Core.Path.{◌≡◌, refl, ◌∙◌}
use mathlib.Core.Bool.{Bool, true, false, cond}
use mathlib.Core.Logic.{⊎_elim, ◌≢◌, ◌↔◌}
use mathlib.Core.List.{List}
use Prim.Native.Nat.{ℕ, ◌+◌, ◌<◌, ◌≤◌}
use native.Mathlib.Nat.{le_refl}
use native.Mathlib.Omega.{arith}
use borrow.Author.Tests.{ltb-false, leb-false, le-ltb, lt-leb, eq-eqb, ne_eqb}
use lib.Dec.{eqb, leb, ltb}
use lib.ListN.{length, set, length-set}
use lib.Seq.{get_or-set_same, get_or-set_other}
use Rattle.ranges.proofs.Order.{eq_or_ne}
use Rattle.records.specs.declared.Event.{Event}
use Rattle.event_log.specs.Model.{Workers, worker_count, event_of}
use Rattle.records.specs.Event.{is_unlogged}
use Rattle.lent.proofs.Lent.{peel}
use Rattle.lent.specs.Lent.{at}
use Rattle.causality.specs.Cut.{Within}
use Rattle.replay_machine.specs.Machine.{receive_answer, event_answer, answer_of, moved_by, moved}

-- positions of a replay: one for each worker, from its start to its cut
pub record Between (log : Workers) (cut starts positions : List ℕ) : Type 0 where
  pub long : length positions ≡ worker_count log
  pub low : Within starts positions
  pub high : Within positions cut

-- the starts themselves
pub starts_between : (log : Workers) (cut starts : List ℕ) → length starts ≡ worker_count log → Within starts cut → Between log cut starts starts
starts_between log cut starts long within = record { long = long; low = λ w. le_refl (at starts w); high = within }

-- a worker whose next event can be done: it is within the cut, and as a kind 2 receive it has its send between the sender's start and position
pub record Ready (log : Workers) (cut starts positions : List ℕ) (w : ℕ) : Type 0 where
  pub worker : w < worker_count log
  pub below : at positions w < at cut w
  pub sent : is_unlogged (event_of log w (at positions w + 1)) ≡ true
      → (at starts (event_of log w (at positions w + 1)).peer < (event_of log w (at positions w + 1)).send)
      × ((event_of log w (at positions w + 1)).send ≤ at positions (event_of log w (at positions w + 1)).peer)

-- what a done step changes: position w alone, which is one more
pub record Raised (positions : List ℕ) (w : ℕ) (next : List ℕ) : Type 0 where
  pub here : at next w ≡ at positions w + 1
  pub others : (v : ℕ) → v ≢ w → at next v ≡ at positions v

module _ (log : Workers) (cut starts positions : List ℕ) (w : ℕ) where
  ready_of : answer_of log cut starts positions w ≡ 0 → Ready log cut starts positions w
  unfolding answer_of event_answer receive_answer
  ready_of e =
      let event = event_of log w (at positions w + 1) in
      let known = peel (leb (worker_count log) w) 11 _ e in
      let within = peel (leb (at cut w) (at positions w)) 20 _ known.1 in
      record {
        worker = leb-false (worker_count log) w known.0;
        below = leb-false (at cut w) (at positions w) within.0;
        sent = λ unlogged.
            let waits = peel (ltb (at positions event.peer) event.send) 21 _ (rw unlogged at within.1) in
            let lost = peel (leb event.send (at starts event.peer)) 22 _ waits.1 in
            (leb-false event.send (at starts event.peer) lost.0, ltb-false (at positions event.peer) event.send waits.0);
      }

  done_of : Ready log cut starts positions w → answer_of log cut starts positions w ≡ 0
  unfolding answer_of event_answer receive_answer
  done_of ready = rw (lt-leb (worker_count log) w ready.worker, lt-leb (at cut w) (at positions w) ready.below) (go (is_unlogged event) refl)
    where
      event : Event
      event = event_of log w (at positions w + 1)

      go : (b : Bool) → is_unlogged event ≡ b → cond b (receive_answer starts positions event) 0 ≡ 0
      go true unlogged =
          let sent = ready.sent unlogged in
          rw (le-ltb (at positions event.peer) event.send sent.1, lt-leb event.send (at starts event.peer) sent.0)
      go false other = refl

  -- a step is done exactly when its worker is ready
  pub done_ready : (answer_of log cut starts positions w ≡ 0) ↔ Ready log cut starts positions w
  done_ready = (ready_of, done_of)

  -- a refused step changes nothing
  pub refused : answer_of log cut starts positions w ≢ 0 → moved log cut starts positions w ≡ positions
  unfolding moved moved_by
  refused other = rw (ne_eqb (answer_of log cut starts positions w) 0 other)

  -- a done step raises position w alone, by one
  pub done_raises : worker_count log ≤ length positions → answer_of log cut starts positions w ≡ 0 → Raised positions w (moved log cut starts positions w)
  unfolding moved moved_by
  done_raises long e =
      let h : w < length positions = let r = ready_of e in omega arith in
      rw (eq-eqb (answer_of log cut starts positions w) 0 e)
      (record {
        here = get_or-set_same positions w (at positions w + 1) 0 h;
        others = λ v other. get_or-set_other positions w v (at positions w + 1) 0 other;
      })

  -- there are as many positions after a step as before it
  pub moved_long : length (moved log cut starts positions w) ≡ length positions
  unfolding moved moved_by
  moved_long = go (eqb (answer_of log cut starts positions w) 0)
    where
      go : (b : Bool) → length (cond b (set positions w (at positions w + 1)) positions) ≡ length positions
      go true = length-set positions w (at positions w + 1)
      go false = refl

  -- every step keeps the positions between the starts and the cut
  pub moved_between : Between log cut starts positions → Between log cut starts (moved log cut starts positions w)
  moved_between between = ⊎_elim done (λ other. rw (refused other) between) (eq_or_ne (answer_of log cut starts positions w) 0)
    where
      done : answer_of log cut starts positions w ≡ 0 → Between log cut starts (moved log cut starts positions w)
      done e =
          let raised = done_raises (let long = between.long in omega arith) e in
          let ready = ready_of e in
          let each : (v : ℕ) → (at starts v ≤ at (moved log cut starts positions w) v) × (at (moved log cut starts positions w) v ≤ at cut v) = λ v.
          let low = between.low v in
          let high = between.high v in
          ⊎_elim
          (λ q. rw q (let low' = between.low w in let here = raised.here in let below = ready.below in (omega arith, omega arith)))
          (λ other. let same = raised.others v other in (omega arith, omega arith))
          (eq_or_ne v w) in
          record { long = moved_long ∙ between.long; low = λ v. (each v).0; high = λ v. (each v).1 }
