-- `planner::stepping::step_each` meets its contract: after j turns the first j × (n + 1) words are the answers and positions of the
-- machine's run of the first j numbers, and the positions are those after it, still between starts and cuts. Assumes nothing.
use Rattle.lent.proofs.Left.{answer_of_lem, slice_of}
use Rattle.replay.proofs.Storing.{storing_begin}
use Rattle.planner.proofs.StepWords.{step_wide, step_stored}
use Rattle.planner.proofs.stepping.step_each.Goals as goal

pub loop-j-init : goal.loop-j-init
loop-j-init c = storing_begin _ _ _ _ _ _ _ (step_wide _ _ c.args.positions.now) c.requires.1

pub loop-j-preserved : goal.loop-j-preserved
loop-j-preserved c =
    let given = c.requires in
    let called = c.step-answer.ensures.left in
    rw c.store.ensures.part
    (step_stored _ given.0 _ _ _ _ _ given.2 given.3 _ _ _ c.loop-j.invariant c.loop-j-test.true _ _ (answer_of_lem called) (slice_of 0 called))
