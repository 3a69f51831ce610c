-- `refusals::event_refusal` meets its contract: 13 for event 0 or one over the worker's count, as `event_refusal` has it. Assumes nothing.
use Rattle.std.proofs.Common.{arith}
use Rattle.std.proofs.lemmas.Grind.{common_steps}
use Rattle.refusals.specs.Refusals.{event_refusal}
use Rattle.refusals.proofs.event_refusal.Goals as goal

pub returns-then-event-eq0 : goal.returns-then-event-eq0
unfolding event_refusal
returns-then-event-eq0 c = grind (arith, common_steps)

pub returns : goal.returns
unfolding event_refusal
returns c = grind (arith, common_steps)
