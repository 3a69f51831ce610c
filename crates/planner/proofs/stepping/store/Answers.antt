-- `planner::stepping::store` meets its contract: the answer is stored in the first word, and the words after it, which are as many as the
-- positions, become these (`put_rest`). Assumes nothing.
use Rattle.planner.proofs.StepWords.{put_rest}
use Rattle.planner.proofs.stepping.store.Goals as goal

pub returns : goal.returns
returns c = record { part = rw c.copy.ensures.words (put_rest _ _ _ c.requires) }
