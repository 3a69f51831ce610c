-- `replay::step` meets its contract: a number other than 0 of `step_refusal` is the answer, with no change (`step_refused`); where it is 0
-- (`step_ok`) answer and positions are the machine's (`step_answer_lem`, `step_positions`). Assumes nothing.
use mathlib.Core.Path.{sym}
use Rattle.lent.proofs.Left.{left_by}
use Rattle.replay_machine.proofs.Call.{step_ok, step_refused, step_answer_lem, step_positions}
use Rattle.replay.proofs.step.Goals as goal

pub returns-then-refusal-ne0 : goal.returns-then-refusal-ne0
returns-then-refusal-ne0 c =
    let none = step_refused _ _ _ _ (rw c.step_refusal-refusal.ensures.answer at c.if-refusal-ne0.true) in
    record { left = rw c.step_refusal-refusal.ensures.answer (left_by (sym none.0) (sym none.1)) }

pub advance-requires : goal.advance-requires
advance-requires c = step_ok _ _ _ _ c.step_refusal-refusal.ensures.answer c.if-refusal-ne0.false

pub returns : goal.returns
returns c =
    let given = step_ok _ _ _ _ c.step_refusal-refusal.ensures.answer c.if-refusal-ne0.false in
    let moved = c.advance.ensures in
    record { left = rw (step_answer_lem _ given.0 _ _ given.1 _, step_positions _ given.0 _ _ given.1 _) (left_by moved.answer moved.positions) }
