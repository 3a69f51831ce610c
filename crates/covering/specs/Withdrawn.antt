-- What the covering test tells of withdrawn checkpoints: document 02, Note 6.
-- Assumes nothing.
use Rattle.std.specs.Prelude.{◌≡◌, true, false, ℕ, ◌<◌, ◌≤◌}
use Rattle.records.specs.Mark.{has_mark}
use Rattle.event_log.specs.Model.{Log, Workers, worker_count, checkpoint_count, checkpoint_of}

-- no worker's checkpoint with identifier t is withdrawn
abbrev pub NoneWithdrawn : Workers → ℕ → Type 0
NoneWithdrawn log t =
    (w c : ℕ) → w < worker_count log → c ≤ checkpoint_count log w → (checkpoint_of log w c).identifier ≡ t → (checkpoint_of log w c).withdrawn ≡ false

-- what the test's answer, 1 or 0, tells
pub record CoversNoneWithdrawn (log : Log) (t answer : ℕ) : Type 0 where
  -- "A covering set has none withdrawn"
  pub none : answer ≡ 1 → NoneWithdrawn log.workers t
  -- "the low 31 bits are the identifier": a number with the mark is no identifier, and covers nothing
  pub marked : has_mark log.form t ≡ true → answer ≡ 0
