-- `repeats::mark_all` meets its contract: after w turns no event of the first w workers receives again a send with a bit in the table, and
-- bit i says whether one of these events receives the event with number low + i. Assumes nothing.
use Rattle.ranges.proofs.Any.{sought_none, sought_more, sought_found, sought_end}
use Rattle.repeats.specs.Inner.Table.{some_again_within}
use Rattle.repeats.proofs.mark_all.Goals as goal

pub loop-w-init : goal.loop-w-init
loop-w-init c = (sought_none, c.requires.3)

pub returns-then-mark_worker : goal.returns-then-mark_worker
unfolding some_again_within
returns-then-mark_worker c =
    let inv = c.loop-w.invariant in
    let found = rw c.loop-w.auto.table at c.mark_worker.ensures.answer in
    record { answer = sought_found inv.0 c.loop-w-test.true found c.if-mark_worker.true c.worker_count-n.ensures.answer }

pub loop-w-preserved : goal.loop-w-preserved
loop-w-preserved c =
    let inv = c.loop-w.invariant in
    let found = rw c.loop-w.auto.table at c.mark_worker.ensures.answer in
    (sought_more inv.0 c.loop-w-test.true found c.if-mark_worker.false, c.mark_worker.ensures.marks c.if-mark_worker.false)

pub returns : goal.returns
unfolding some_again_within
returns c = record { answer = sought_end c.loop-w.invariant.0 c.loop-w-test.false c.worker_count-n.ensures.answer }
