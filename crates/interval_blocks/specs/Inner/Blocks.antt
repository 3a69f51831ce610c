-- A table of the intervals at every 2 ^ b-th event of each worker.
-- Assumes nothing.
use Rattle.std.specs.Prelude.{◌≡◌, List, ℕ, ◌+◌, ◌*◌, ◌/◌, ◌^◌, ◌<◌, ◌≤◌, length}
use Rattle.ranges.specs.Fold.{sum_below}
use Rattle.lent.specs.Lent.{at}
use Rattle.event_log.specs.Model.{Workers, worker_count, event_count}
use Rattle.intervals.specs.Interval.{index, interval_at}

-- the largest b: a block then has every event of a worker
abbrev pub most_bits : ℕ
most_bits = 16

module _ (log : Workers) (b : ℕ) where
  -- how many blocks worker w has: block j has the indices from j * 2 ^ b up to the next block's, index 0 among them
  unfoldable pub blocks_of : ℕ → ℕ
  blocks_of w = event_count log w / 2 ^ b + 1

  -- the blocks of the workers before w, which stand before its own
  unfoldable pub first_block : ℕ → ℕ
  first_block w = sum_below blocks_of w

  -- the interval where block j of worker w begins
  unfoldable pub block_interval : ℕ → ℕ → ℕ
  block_interval w j = (interval_at log w (index (j * 2 ^ b))).0

  -- a table of these intervals, the row of each worker behind that of the one before, and the places where the rows begin
  pub record Blocks (firsts table : List ℕ) : Type 0 where
    pub small : b ≤ most_bits
    pub listed : worker_count log ≤ length firsts
    pub long : first_block (worker_count log) ≤ length table
    pub first : (w : ℕ) → w < worker_count log → at firsts w ≡ first_block w
    pub holds : (w j : ℕ) → w < worker_count log → j < blocks_of w → at table (first_block w + j) ≡ block_interval w j
