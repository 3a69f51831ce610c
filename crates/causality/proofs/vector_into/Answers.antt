-- `causality::vector_into` meets its contract: the row of events 1 .. e has the largest send named of each other worker, and word i is then
-- set to e, which is the vector (`row_vector`). Assumes nothing.
use Rattle.causality.proofs.Row.{row_vector}
use Rattle.causality.proofs.vector_into.Goals as goal

pub returns : goal.returns
returns c = record { words = rw c.row_into.ensures.words (row_vector _ _ _ c.requires.2) }
