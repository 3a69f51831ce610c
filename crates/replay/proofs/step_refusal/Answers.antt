-- `replay::step_refusal` meets its contract: the log's number is returned where it is not 0; where it is 0 the log is accepted, and
-- `or_else` gives 12 before 14 and 16. Assumes nothing.
use Rattle.std.proofs.Common.{arith}
use Rattle.std.proofs.lemmas.Grind.{common_steps}
use mathlib.Core.Path.{sym, ◌∙◌}
use borrow.Author.Tests.{eq-eqb, ne_eqb}
use Rattle.lent.specs.Lent.{or_else}
use Rattle.accept.proofs.Accepted.{accepted_layout}
use Rattle.replay_machine.specs.Calls.{step_refusal}
use Rattle.replay.proofs.step_refusal.Goals as goal

pub returns-then-refusal-ne0 : goal.returns-then-refusal-ne0
unfolding step_refusal or_else
returns-then-refusal-ne0 c = grind (arith, common_steps)

pub worker_refusal-requires : goal.worker_refusal-requires
worker_refusal-requires c = accepted_layout _ (sym c.accept-refusal.ensures.answer ∙ c.if-refusal-ne0.false)

pub returns : goal.returns
unfolding step_refusal or_else
returns c = grind (arith, common_steps)
