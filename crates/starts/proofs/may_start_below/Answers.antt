-- `starts::may_start_below` meets its contract: a checkpoint that may not be chosen gives no; for any other the answer is whether
-- its index is below `bound`. Assumes nothing.
use Rattle.std.proofs.Common.{arith}
use Rattle.std.proofs.lemmas.Grind.{common_steps}
use Rattle.accept.proofs.Accepted.{accepted_layout}
use Rattle.starts.specs.Inner.Rollback.{may_start_below}
use Rattle.starts.proofs.may_start_below.Goals as goal

pub checkpoint_at-requires : goal.checkpoint_at-requires
checkpoint_at-requires c = accepted_layout _ c.requires

pub returns-then-may_choose : goal.returns-then-may_choose
unfolding may_start_below
returns-then-may_choose c = grind (arith, common_steps)

pub returns-else-may_choose : goal.returns-else-may_choose
unfolding may_start_below
returns-else-may_choose c = grind (arith, common_steps)
