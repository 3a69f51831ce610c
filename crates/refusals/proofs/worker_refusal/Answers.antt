-- `refusals::worker_refusal` meets its contract: 12 where the log's worker count is at most the worker's number, 0 where it is above: the
-- one test of `worker_refusal`. Assumes nothing.
use Rattle.std.proofs.Common.{arith}
use Rattle.std.proofs.lemmas.Grind.{common_steps}
use borrow.Author.Tests.{le-leb, lt-leb}
use Rattle.refusals.specs.Refusals.{worker_refusal}
use Rattle.refusals.proofs.worker_refusal.Goals as goal

pub returns-then-worker_count-worker : goal.returns-then-worker_count-worker
unfolding worker_refusal
returns-then-worker_count-worker c = grind (arith, common_steps)

pub returns : goal.returns
unfolding worker_refusal
returns c = grind (arith, common_steps)
