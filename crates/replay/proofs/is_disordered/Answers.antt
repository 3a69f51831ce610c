-- `replay::is_disordered` meets its contract: it is yes where start <= position, position <= cut or cut <= count fails, as `disordered`
-- has it. Assumes nothing.
use Rattle.std.proofs.Common.{arith}
use Rattle.std.proofs.lemmas.Grind.{common_steps}
use Rattle.accept.proofs.Accepted.{accepted_layout}
use Rattle.replay_machine.specs.Calls.{disordered}
use Rattle.replay.proofs.is_disordered.Goals as goal

pub event_count-requires : goal.event_count-requires
event_count-requires c = accepted_layout _ c.requires.0

pub returns-then-cut_in-positions : goal.returns-then-cut_in-positions
unfolding disordered
returns-then-cut_in-positions c = grind (arith, common_steps)

pub returns-else-cut_in-positions : goal.returns-else-cut_in-positions
unfolding disordered
returns-else-cut_in-positions c = grind (arith, common_steps)
