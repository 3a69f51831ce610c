-- `refusals::scratch_refusal` meets its contract: the words lent are compared with `scratch_words` of the log's worker count.
-- Assumes nothing.
use Rattle.std.proofs.Common.{arith}
use Rattle.std.proofs.lemmas.Grind.{common_steps}
use Rattle.refusals.specs.Refusals.{scratch_refusal}
use Rattle.refusals.proofs.scratch_refusal.Goals as goal

pub returns : goal.returns
unfolding scratch_refusal
returns c = grind (arith, common_steps)
