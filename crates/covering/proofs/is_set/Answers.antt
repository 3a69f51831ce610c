-- `covering::is_set` meets its contract: of a checkpoint that may be chosen its identifier decides, and no other is in a set.
-- Assumes nothing.
use Rattle.std.proofs.Common.{arith}
use Rattle.std.proofs.lemmas.Grind.{common_steps}
use Rattle.accept.proofs.Accepted.{accepted_layout}
use Rattle.covering.specs.Covering.{is_set}
use Rattle.covering.proofs.is_set.Goals as goal

pub checkpoint_at-requires : goal.checkpoint_at-requires
checkpoint_at-requires c = accepted_layout _ c.requires

pub returns-then-may_choose : goal.returns-then-may_choose
unfolding is_set
returns-then-may_choose c = grind (arith, common_steps)

pub returns-else-may_choose : goal.returns-else-may_choose
unfolding is_set
returns-else-may_choose c = grind (arith, common_steps)
