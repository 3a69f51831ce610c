-- `refusals::scratch_words` meets its contract: n = 1 gives 1, and any other n gives 2 × n, which fits since a log has at most 64 workers.
-- Assumes nothing.
use Rattle.std.proofs.lemmas.Grind.{common_steps}
use borrow.Author.Tests.{eq-eqb, ne_eqb}
use native.Mathlib.Omega.{arith}
use Rattle.refusals.specs.Refusals.{scratch_words}
use Rattle.refusals.proofs.Allowed.{each_fits}
use Rattle.refusals.proofs.scratch_words.Goals as goal

pub returns-then-n-eq1 : goal.returns-then-n-eq1
unfolding scratch_words
returns-then-n-eq1 c = grind (arith, common_steps)

pub returns : goal.returns
unfolding scratch_words
returns c = grind (arith, common_steps)
