-- `choice::may_choose` meets its contract: a checkpoint c that the worker has may be chosen exactly where it is not withdrawn, and no other.
-- Assumes nothing.
use Rattle.std.proofs.Common.{arith}
use Rattle.std.proofs.lemmas.Grind.{common_steps}
use Rattle.accept.proofs.Accepted.{accepted_layout}
use Rattle.choice.specs.Choice.{may_choose}
use Rattle.choice.proofs.may_choose.Goals as goal

pub checkpoint_count-requires : goal.checkpoint_count-requires
checkpoint_count-requires c = accepted_layout _ c.requires

pub checkpoint_at-requires : goal.checkpoint_at-requires
checkpoint_at-requires c = accepted_layout _ c.requires

pub returns-then-c-checkpoint_count : goal.returns-then-c-checkpoint_count
unfolding may_choose
returns-then-c-checkpoint_count c = grind (arith, common_steps)

pub returns-else-c-checkpoint_count : goal.returns-else-c-checkpoint_count
unfolding may_choose
returns-else-c-checkpoint_count c = grind (arith, common_steps)
