-- `causality::worker_lacks` meets its contract: a receive of worker w within the cut has its send outside it if and only if `first_lacking`
-- stops before the end of the cut (`first_any`). Assumes nothing.
use Rattle.ranges.proofs.First.{first_any}
use Rattle.causality.specs.Cut.{worker_lacks}
use Rattle.causality.proofs.worker_lacks.Goals as goal

pub returns : goal.returns
unfolding worker_lacks
returns c = record { answer = rw c.first_lacking.ensures.answer (first_any _ _) }
