-- `refusals::breakpoint_refusal` meets its contract: the log's number is returned where it is not 0; where it is 0 the log can be read, and
-- 12 and 13 are all that is left to test. Assumes nothing.
use Rattle.std.proofs.Common.{arith}
use Rattle.std.proofs.lemmas.Grind.{common_steps}
use mathlib.Core.Path.{sym, ◌∙◌}
use borrow.Author.Tests.{eq-eqb, ne_eqb}
use Rattle.lent.specs.Lent.{or_else}
use Rattle.accept.proofs.Accepted.{accepted_layout}
use Rattle.refusals.specs.Refusals.{breakpoint_refusal}
use Rattle.refusals.proofs.breakpoint_refusal.Goals as goal

pub returns-then-refusal-ne0 : goal.returns-then-refusal-ne0
unfolding breakpoint_refusal or_else
returns-then-refusal-ne0 c = grind (arith, common_steps)

pub event_in_refusal-requires : goal.event_in_refusal-requires
event_in_refusal-requires c = accepted_layout _ (sym c.accept-refusal.ensures.answer ∙ c.if-refusal-ne0.false)

pub returns : goal.returns
unfolding breakpoint_refusal or_else
returns c = grind (arith, common_steps)
