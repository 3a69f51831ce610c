-- `breakpoints::length_refusal` meets its contract: an odd number of words gives 29, and so do more than two for each of 1,024
-- breakpoints; where both tests fail, `length_refusal` is 0. Assumes nothing.
use Rattle.std.proofs.Common.{arith}
use Rattle.std.proofs.lemmas.Grind.{common_steps}
use Rattle.breakpoints.specs.Breakpoints.{length_refusal}
use Rattle.breakpoints.proofs.length_refusal.Goals as goal

pub returns-then-words-eq1 : goal.returns-then-words-eq1
unfolding length_refusal
returns-then-words-eq1 c = grind (arith, common_steps)

pub returns : goal.returns
unfolding length_refusal
returns c = grind (arith, common_steps)
