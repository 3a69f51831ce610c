-- The call `step` and the machine: what a step that is not refused is given, and that every list of step calls is the machine's run.
-- Assumes nothing.
use mathlib.Core.Path.{◌≡◌, refl, sym, ◌∙◌, ap}
use mathlib.Core.Bool.{false, ◌&&◌}
use mathlib.Core.Logic.{⊎_elim, ◌≢◌}
use mathlib.Core.List.{List, [], ◌∷◌}
use Prim.Native.Nat.{ℕ, ◌*◌, ◌≤◌}
use native.Mathlib.Nat.{le_refl}
use native.Mathlib.Omega.{arith}
use borrow.Author.Tests.{leb-true, le-leb, lt-leb, ne_eqb, not-false}
use lib.Dec.{leb}
use lib.ListN.{length}
use Rattle.ranges.specs.Fold.{any_below}
use Rattle.ranges.proofs.Any.{any_each, any_every}
use Rattle.ranges.proofs.Bools.{and_true_left, and_true_right}
use Rattle.ranges.proofs.Order.{lt_or_le, eq_or_ne}
use Rattle.lent.specs.Lent.{at, or_else, words_refusal}
use Rattle.lent.proofs.Lent.{peel, or_else_zero, words_ok, words_enough}
use Rattle.event_log.specs.Model.{Workers, worker_count, event_count, IsEvent}
use Rattle.accept.specs.Refusal.{Given}
use Rattle.accept.specs.WellFormed.{WellFormed}
use Rattle.causality.specs.Cut.{IsCut}
use Rattle.lower_cut.specs.Figure2.{lower_cut}
use Rattle.refusals.specs.Refusals.{worker_refusal}
use Rattle.lower_cut.proofs.LowerCut.{lower_is}
use Rattle.restore_plan.specs.Plan.{plan_starts, plan_words}
use Rattle.cost.specs.Words.{cut_in, start_in, cuts_in, starts_in}
use Rattle.cost.proofs.Held.{cuts_at}
use Rattle.restore_plan.proofs.Written.{plan_long, plan_cut, plan_start, plan_cuts, plan_starts_in}
use Rattle.restore_plan.proofs.Latest.{plan_starts_latest}
use Rattle.replay_machine.specs.Machine.{Step, answer_of, moved_by, moved, step_of, run}
use Rattle.replay_machine.specs.Calls.{disordered, order_refusal, state_refusal, step_refusal, steps_refusal, machine_answer, machine_moved, machine_run, step_answer, step_after, calls}
use Rattle.replay_machine.specs.Inner.State.{IsState}
use Rattle.replay_machine.proofs.Steps.{done_ready, refused, done_raises, moved_long}

-- the test of 16 on one worker
ordered_of : (log : Workers) (words positions : List ℕ) (w : ℕ) → disordered log words positions w ≡ false
    → (start_in words w ≤ at positions w) × (at positions w ≤ cut_in words w) × (cut_in words w ≤ event_count log w)
unfolding disordered
ordered_of log words positions w e =
    let low = leb (start_in words w) (at positions w) in
    let high = leb (at positions w) (cut_in words w) in
    let counted = leb (cut_in words w) (event_count log w) in
    let all = not-false (low && high && counted) e in
    let both = and_true_left (low && high) counted all in
    (leb-true _ _ (and_true_left low high both), leb-true _ _ (and_true_right low high both), leb-true _ _ (and_true_right (low && high) counted all))

in_order : (log : Workers) (words positions : List ℕ) (w : ℕ) → start_in words w ≤ at positions w → at positions w ≤ cut_in words w → cut_in words w ≤ event_count log w
    → disordered log words positions w ≡ false
unfolding disordered
in_order log words positions w low high counted =
    rw (le-leb (start_in words w) (at positions w) low, le-leb (at positions w) (cut_in words w) high, le-leb (cut_in words w) (event_count log w) counted)

-- words that are not refused by 14 or 16 are enough, and every position stands between its start and its cut
pub state_ok : (log : Workers) (words positions : List ℕ) (others : ℕ) {r : ℕ} → r ≡ state_refusal log words positions others → r ≡ 0
    → IsState log words positions × (others ≡ 0)
unfolding state_refusal order_refusal
state_ok log words positions others found none =
    let n = worker_count log in
    let first = or_else_zero _ (order_refusal log words positions) (sym found ∙ none) in
    let lent = or_else_zero (words_refusal (length words) (3 * n)) _ first.0 in
    let more = or_else_zero (words_refusal (length positions) n) others lent.1 in
    let ordered = (peel (any_below (disordered log words positions) n) 15 0 first.1).0 in (
      record {
        planned = words_ok _ _ lent.0;
        placed = words_ok _ _ more.0;
        ordered = λ v h. ordered_of log words positions v (any_each _ n ordered v h);
      },
      more.1,
    )

-- conversely, such words are not refused
pub state_unrefused : (log : Workers) (words positions : List ℕ) → IsState log words positions → state_refusal log words positions 0 ≡ 0
unfolding state_refusal order_refusal or_else
state_unrefused log words positions state =
    rw (
      words_enough (length words) (3 * worker_count log) state.planned,
      words_enough (length positions) (worker_count log) state.placed,
      any_every (disordered log words positions) (worker_count log)
          (λ v l. let order = state.ordered v l in in_order log words positions v order.0 order.1 order.2),
    )

-- a step that is not refused by what it is lent
pub step_ok : (log : Given) (words positions : List ℕ) (w : ℕ) {r : ℕ} → r ≡ step_refusal log words positions w → r ≡ 0
    → (log.refusal ≡ 0) × IsState log.workers words positions
unfolding step_refusal
step_ok log words positions w found none =
    let first = or_else_zero log.refusal _ (sym found ∙ none) in
    let second = or_else_zero (worker_refusal log.workers w) (state_refusal log.workers words positions 0) first.1 in
    (first.0, (state_ok log.workers words positions 0 refl second.1).0)

-- a list of steps that is not refused by what it is lent
pub steps_ok : (log : Given) (words positions : List ℕ) (others : ℕ) {r : ℕ} → r ≡ steps_refusal log words positions others → r ≡ 0
    → (log.refusal ≡ 0) × IsState log.workers words positions × (others ≡ 0)
unfolding steps_refusal
steps_ok log words positions others found none =
    let first = or_else_zero log.refusal _ (sym found ∙ none) in
    let state = state_ok log.workers words positions others refl first.1 in
    (first.0, state.0, state.1)

-- a call that is refused by what it is lent answers that number and changes no word
pub step_refused : (log : Given) (words positions : List ℕ) (w : ℕ) → step_refusal log words positions w ≢ 0
    → (step_answer log words positions w ≡ step_refusal log words positions w) × (step_after log words positions w ≡ positions)
unfolding step_answer step_after or_else moved_by
step_refused log words positions w other = let number = ne_eqb (step_refusal log words positions w) 0 other in (rw number, rw (number, number))

-- every step keeps each position between its start and its cut
pub moved_state : (log : Workers) (words positions : List ℕ) → IsState log words positions → (w : ℕ) → IsState log words (machine_moved log words positions w)
moved_state log words positions state w =
    ⊎_elim done (λ other. rw (refused log cut starts positions w other) state) (eq_or_ne (answer_of log cut starts positions w) 0)
  where
    cut : List ℕ
    cut = cuts_in log words

    starts : List ℕ
    starts = starts_in log words

    done : answer_of log cut starts positions w ≡ 0 → IsState log words (moved log cut starts positions w)
    done e =
        let raised = done_raises log cut starts positions w state.placed e in
        let ready = (done_ready log cut starts positions w).0 e in
        let end = cuts_at log words w ready.worker in
        let long = moved_long log cut starts positions w in
        record {
          planned = state.planned;
          placed = let enough = state.placed in omega arith;
          ordered = λ v h.
              let order = state.ordered v h in
              ⊎_elim
              (λ q. rw q (let order = state.ordered w ready.worker in let here = raised.here in let below = ready.below in (omega arith, omega arith, omega arith)))
              (λ other. let same = raised.others v other in (omega arith, omega arith, omega arith))
              (eq_or_ne v w);
        }

module _ (log : Given) (accepted : log.refusal ≡ 0) where
  module _ (words positions : List ℕ) (state : IsState log.workers words positions) where
    -- the answer of a step call is the machine's, for a worker number of any value
    pub step_answer_lem : (w : ℕ) → step_answer log words positions w ≡ machine_answer log.workers words positions w
    unfolding step_answer step_refusal worker_refusal or_else answer_of
    step_answer_lem w =
        ⊎_elim
        (λ h. rw (accepted, lt-leb (worker_count log.workers) w h, state_unrefused log.workers words positions state))
        (λ h. rw (accepted, le-leb (worker_count log.workers) w h))
        (lt_or_le w (worker_count log.workers))

    -- and so are the position words after it
    pub step_positions : (w : ℕ) → step_after log words positions w ≡ machine_moved log.workers words positions w
    unfolding step_after moved
    step_positions w = rw (step_answer_lem w)

  -- a list of step calls, each given the positions that the last one left, is the machine's run: the answers and the position words
  pub calls_run : (words positions workers : List ℕ) → IsState log.workers words positions
      → calls log words positions workers ≡ machine_run log.workers words positions workers
  unfolding calls run step_of
  calls_run words positions [] state = refl
  calls_run words positions (w ∷ workers) state =
      rw (step_answer_lem words positions state w, step_positions words positions state w)
      (ap (λ (l : List Step). step_of log.workers (cuts_in log.workers words) (starts_in log.workers words) positions w ∷ l)
      (calls_run words (machine_moved log.workers words positions w) workers (moved_state log.workers words positions state w)))

-- ---- the plan of a breakpoint event
module _ (log : Workers) (ok : WellFormed log) (i e : ℕ) (event : IsEvent log i e) where
  abbrev cut : List ℕ
  cut = lower_cut log i e

  is_cut : IsCut log cut
  is_cut = (lower_is log ok i e event).consistent.is_cut

  -- its words, with its starts for positions, are given to a step that is not refused
  pub plan_state : IsState log (plan_words log cut) (plan_starts log cut)
  plan_state =
      let are = (plan_starts_latest log ok cut is_cut).are in
      record {
        planned = rw (plan_long log cut) (le_refl (3 * worker_count log));
        placed = omega (arith, are.long);
        ordered = λ w h.
            let first = plan_cut log cut w h in
            let second = plan_start log cut w h in
            let start = are.within w in
            let end = is_cut.within w in
            (omega arith, omega arith, omega arith);
      }

-- every list of step calls over the plan words from the planned starts is the machine's run to the lower cut
pub plan_calls : (log : Given) → log.refusal ≡ 0 → WellFormed log.workers → (i e : ℕ) → IsEvent log.workers i e → (workers : List ℕ)
    → let cut = lower_cut log.workers i e in let starts = plan_starts log.workers cut in
    calls log (plan_words log.workers cut) starts workers ≡ run log.workers cut starts starts workers
plan_calls log accepted ok i e event workers =
    let cut = lower_cut log.workers i e in
    let is = is_cut log.workers ok i e event in
    rw (plan_cuts log.workers cut is, plan_starts_in log.workers cut ok is) at
    (calls_run log accepted (plan_words log.workers cut) (plan_starts log.workers cut) workers (plan_state log.workers ok i e event))
