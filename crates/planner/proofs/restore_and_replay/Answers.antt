-- `planner::restore_and_replay` meets its contract: the number is `restore_refusal`'s; where it is 0 the plan is not refused, steps may be
-- made from its starts (`front_state`), and demand 3 holds of what they leave (`restored`), else no word changes. Assumes nothing.
use mathlib.Core.Path.{refl, sym, ◌∙◌}
use native.Mathlib.Nat.{lt_of_le_of_lt}
use native.Mathlib.Omega.{arith}
use lib.ListN.{length-take}
use lib.Seq.{length-take-le}
use Rattle.lent.proofs.Lent.{put, untouched}
use Rattle.lent.proofs.Left.{leaves_four_by, answer_of_lem, slice_of}
use Rattle.accept.proofs.Accepted.{accepted_layout, well_formed}
use Rattle.restore_plan.proofs.PlanTable.{as_before}
use Rattle.replay_machine.specs.Calls.{restore_refusal}
use Rattle.planner.proofs.Restored.{restore_ok, front_words, front_state, front_positions, front_steps, restored}
use Rattle.planner.proofs.restore_and_replay.Goals as goal

pub returns-then-refusal-ne0 : goal.returns-then-refusal-ne0
unfolding restore_refusal
returns-then-refusal-ne0 c =
    let no = c.if-refusal-ne0.true in
    let found = c.restore_refusal-refusal.ensures.answer in
    record {
      left = leaves_four_by _ _ _ _ _ _ _ _ found (untouched _ _ _ no) (untouched _ _ _ no) (untouched _ _ _ no) (untouched _ _ _ no);
      kept = (λ _. refl);
      demand3 = (λ none. absurd (no none));
      floor = (λ none. absurd (no none));
      before = λ same. as_before _ _ _ _ _ _ _ _ _ _ found (untouched _ _ _ no) same;
    }

pub worker_count-n-requires : goal.worker_count-n-requires
worker_count-n-requires c =
    let lent = restore_ok c.restore_refusal-refusal.ensures.answer c.if-refusal-ne0.false in
    accepted_layout _ lent.search.line.breakpoint.accepted

pub overflow_mul-stepped : goal.overflow_mul-stepped
overflow_mul-stepped c =
    let lent = restore_ok c.restore_refusal-refusal.ensures.answer c.if-refusal-ne0.false in
    record { fits = lt_of_le_of_lt (rw c.worker_count-n.ensures.answer lent.stepped) c.well_formed.1.1.1.1.1.1.1.1.0.0 }

pub slice_bounds-replay_words-end : goal.slice_bounds-replay_words-end
slice_bounds-replay_words-end c =
    let lent = restore_ok c.restore_refusal-refusal.ensures.answer c.if-refusal-ne0.false in
    omega (arith, c.plan.auto.words, lent.search.line.enough, c.worker_count-n.ensures.answer)

pub slice_bounds-replay_words-end-2 : goal.slice_bounds-replay_words-end-2
slice_bounds-replay_words-end-2 c =
    let lent = restore_ok c.restore_refusal-refusal.ensures.answer c.if-refusal-ne0.false in
    simp length-take (omega (arith, c.plan.auto.words, lent.search.line.enough, c.worker_count-n.ensures.answer))

pub slice_bounds-replay_words-end-3 : goal.slice_bounds-replay_words-end-3
slice_bounds-replay_words-end-3 c =
    let lent = restore_ok c.restore_refusal-refusal.ensures.answer c.if-refusal-ne0.false in
    omega (arith, lent.placed, c.worker_count-n.ensures.answer)

pub slice_bounds-replay_words-end-4 : goal.slice_bounds-replay_words-end-4
slice_bounds-replay_words-end-4 c =
    let lent = restore_ok c.restore_refusal-refusal.ensures.answer c.if-refusal-ne0.false in
    simp length-take (omega (arith, lent.placed, c.worker_count-n.ensures.answer))

pub slice_bounds-replay_words-end-5 : goal.slice_bounds-replay_words-end-5
slice_bounds-replay_words-end-5 c =
    let lent = restore_ok c.restore_refusal-refusal.ensures.answer c.if-refusal-ne0.false in
    rw c.worker_count-n.ensures.answer lent.stepped

pub slice_bounds-replay_words-end-6 : goal.slice_bounds-replay_words-end-6
slice_bounds-replay_words-end-6 c =
    let lent = restore_ok c.restore_refusal-refusal.ensures.answer c.if-refusal-ne0.false in
    sym (length-take-le _ _ (rw c.worker_count-n.ensures.answer lent.stepped))

pub replay_words-requires : goal.replay_words-requires
replay_words-requires c =
    let lent = restore_ok c.restore_refusal-refusal.ensures.answer c.if-refusal-ne0.false in
    let point = lent.search.line.breakpoint in
    let ok = well_formed _ point.accepted in
    let size = c.worker_count-n.ensures.answer in
    let planned = c.plan.ensures in
    let front = front_words _ ok _ _ point.event _ _ _ _ size lent.planned (slice_of 0 planned.left) in (
      point.accepted,
      front_state _ ok _ _ point.event _ front,
      rw (size) (length-take-le _ _ lent.placed),
      rw (size) (length-take-le _ _ lent.stepped),
    )

pub returns : goal.returns
unfolding restore_refusal
returns c =
    let lent = restore_ok c.restore_refusal-refusal.ensures.answer c.if-refusal-ne0.false in
    let point = lent.search.line.breakpoint in
    let ok = well_formed _ point.accepted in
    let size = c.worker_count-n.ensures.answer in
    let planned = c.plan.ensures in
    let words = rw lent.planned at (slice_of 0 planned.left) in
    let totals = rw lent.planned at (slice_of 1 planned.left) in
    let front = front_words _ ok _ _ point.event _ _ _ _ size lent.planned (slice_of 0 planned.left) in
    let stepped = c.replay_words.ensures in
    let positions = front_positions _ ok _ _ point.event _ _ _ _ _ front size stepped.positions in
    let steps = front_steps _ ok _ _ point.event _ _ _ _ _ front size stepped.steps in
    let found = c.restore_refusal-refusal.ensures.answer in
    let none = c.if-refusal-ne0.false in
    let whole =
    restored _ ok _ _ point.event _ _ _ _ _ _ _ _ _ _
    (words ∙ sym (put 0 _ _ refl)) (totals ∙ sym (put 0 _ _ refl)) (positions ∙ sym (put 0 _ _ refl)) (steps ∙ sym (put 0 _ _ refl)) in
    let answer = sym none ∙ found in
    let floor = planned.floor (answer_of_lem planned.left ∙ lent.planned) in
    record {
      left = leaves_four_by _ _ _ _ _ _ _ _ answer words positions steps totals;
      kept = (λ no. absurd (no refl));
      demand3 = (λ _. whole);
      floor = (λ _. floor);
      before = λ same. as_before _ _ _ _ _ _ _ _ _ _ answer totals same;
    }
