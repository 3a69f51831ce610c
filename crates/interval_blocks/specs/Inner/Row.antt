-- What is in the table while the blocks of one worker are written to it.
-- Assumes nothing.
use Rattle.std.specs.Prelude.{◌≡◌, List, ℕ, ◌+◌, ◌<◌}
use Rattle.lent.specs.Lent.{at}
use Rattle.event_log.specs.Model.{Workers}
use Rattle.interval_blocks.specs.Inner.Blocks.{block_interval}

-- the intervals where the first n blocks of worker w begin, from place `first` on; before it the table is as it was
pub record Row (log : Workers) (b w first n : ℕ) (old table : List ℕ) : Type 0 where
  pub holds : (j : ℕ) → j < n → at table (first + j) ≡ block_interval log b w j
  pub kept : (k : ℕ) → k < first → at table k ≡ at old k
