-- `refusals::line_refusal` meets its contract: the number of `breakpoint_refusal` is returned where it is not 0; where it is 0 the log is
-- accepted (`breakpoint_ok`), and `or_else` gives 14 for `each` × n words before `others`. Assumes nothing.
use Rattle.std.proofs.Common.{arith}
use Rattle.std.proofs.lemmas.Grind.{common_steps}
use borrow.Author.Tests.{eq-eqb, ne_eqb}
use Rattle.lent.specs.Lent.{or_else}
use Rattle.accept.proofs.Accepted.{accepted_layout}
use Rattle.refusals.specs.Refusals.{line_refusal}
use Rattle.refusals.proofs.Allowed.{breakpoint_ok, each_fits}
use Rattle.std.proofs.Common.{rules}
use Rattle.refusals.proofs.line_refusal.Goals as goal

pub returns-then-refusal-ne0 : goal.returns-then-refusal-ne0
unfolding line_refusal or_else
returns-then-refusal-ne0 c = grind (arith, common_steps)

pub worker_count-requires : goal.worker_count-requires
worker_count-requires c = accepted_layout _ (breakpoint_ok c.breakpoint_refusal-refusal.ensures.answer c.if-refusal-ne0.false).accepted

pub returns : goal.returns
unfolding line_refusal or_else
returns c = grind (arith, common_steps)
