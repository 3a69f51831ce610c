-- `sheet::add_plan` meets its contract: after j turns the plan is added to the first j words, and the others are as lent (`store_more`,
-- `store_next`). Assumes nothing.
use mathlib.Core.Path.{◌≡◌, sym}
use lib.ListN.{get_or}
use Rattle.ranges.proofs.Tabulate.{store_none, store_more, store_next}
use Rattle.sheet.proofs.add_plan.Goals as goal

pub loop-j-init : goal.loop-j-init
loop-j-init c = sym (store_none _ _)

pub loop-j-preserved : goal.loop-j-preserved
loop-j-preserved c =
    let j = c.loop-j.j in
    let lent = c.args.sheet.now in
    let word : get_or c.loop-j.sheet j 0 ≡ get_or lent j 0 = rw c.loop-j.invariant (store_next _ lent j c.loop-j-test.true) in
    rw (word, c.loop-j.invariant, c.plan_adds.ensures.answer) (store_more _ lent j c.loop-j-test.true)
