-- Plan words and positions that a step may be made of.
-- Assumes nothing.
use Rattle.std.specs.Prelude.{List, ℕ, ◌*◌, ◌<◌, ◌≤◌, length}
use Rattle.lent.specs.Lent.{at}
use Rattle.event_log.specs.Model.{Workers, worker_count, event_count}
use Rattle.cost.specs.Words.{cut_in, start_in}

-- what a step of any worker is given when none of 14 and 16 applies
pub record IsState (log : Workers) (words positions : List ℕ) : Type 0 where
  pub planned : 3 * worker_count log ≤ length words
  pub placed : worker_count log ≤ length positions
  pub ordered : (w : ℕ) → w < worker_count log → (start_in words w ≤ at positions w) × (at positions w ≤ cut_in words w) × (cut_in words w ≤ event_count log w)
