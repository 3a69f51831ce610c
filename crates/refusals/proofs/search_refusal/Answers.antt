-- `refusals::search_refusal` meets its contract: the number of `line_refusal` is returned where it is not 0; where it is 0 the log is
-- accepted (`line_ok`), and 15 is all that is left to test. Assumes nothing.
use Rattle.std.proofs.Common.{arith}
use Rattle.std.proofs.lemmas.Grind.{common_steps}
use borrow.Author.Tests.{eq-eqb, ne_eqb}
use Rattle.lent.specs.Lent.{or_else}
use Rattle.accept.proofs.Accepted.{accepted_layout}
use Rattle.refusals.specs.Refusals.{search_refusal}
use Rattle.refusals.proofs.Allowed.{line_ok}
use Rattle.refusals.proofs.search_refusal.Goals as goal

pub returns-then-refusal-ne0 : goal.returns-then-refusal-ne0
unfolding search_refusal or_else
returns-then-refusal-ne0 c = grind (arith, common_steps)

pub scratch_refusal-requires : goal.scratch_refusal-requires
scratch_refusal-requires c = accepted_layout _ (line_ok c.line_refusal-refusal.ensures.answer c.if-refusal-ne0.false).breakpoint.accepted

pub returns : goal.returns
unfolding search_refusal or_else
returns c = grind (arith, common_steps)
