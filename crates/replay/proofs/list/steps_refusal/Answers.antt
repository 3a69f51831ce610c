-- `replay::list::steps_refusal` meets its contract: the log's number is returned where it is not 0; where it is 0 the log is accepted, and
-- `state_refusal` gives 14 and 16. Assumes nothing.
use Rattle.std.proofs.Common.{arith}
use Rattle.std.proofs.lemmas.Grind.{common_steps}
use mathlib.Core.Path.{sym, ◌∙◌}
use borrow.Author.Tests.{eq-eqb, ne_eqb}
use Rattle.lent.specs.Lent.{or_else}
use Rattle.replay_machine.specs.Calls.{steps_refusal}
use Rattle.replay.proofs.list.steps_refusal.Goals as goal

pub returns-then-refusal-ne0 : goal.returns-then-refusal-ne0
unfolding steps_refusal or_else
returns-then-refusal-ne0 c = grind (arith, common_steps)

pub returns : goal.returns
unfolding steps_refusal or_else
returns c = grind (arith, common_steps)
