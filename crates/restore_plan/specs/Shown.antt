-- The identifiers that plan words show: document 02, Note 6.
-- Assumes nothing.
use Rattle.std.specs.Prelude.{◌≡◌, false, List, ℕ, ◌<◌, ◌≤◌}
use Rattle.records.specs.Mark.{has_mark}
use Rattle.event_log.specs.Model.{Log, Workers, worker_count, checkpoint_count, checkpoint_of}
use Rattle.cost.specs.Words.{start_in, identifier_in}

-- "listed with that index and not withdrawn": checkpoint c of worker w, with index x
pub record IsListed (log : Workers) (w x c : ℕ) : Type 0 where
  pub recorded : (1 ≤ c) × (c ≤ checkpoint_count log w)
  pub index : (checkpoint_of log w c).index ≡ x
  pub kept : (checkpoint_of log w c).withdrawn ≡ false

-- "Plan words show the identifier without the mark, and a withdrawn record never gives it: the last one listed with that index and not
-- withdrawn does, else 0": the third word of each worker
pub record Shown (log : Log) (words : List ℕ) : Type 0 where
  pub unmarked : (w : ℕ) → w < worker_count log.workers → has_mark log.form (identifier_in words w) ≡ false
  pub last : (w c : ℕ) → w < worker_count log.workers → IsListed log.workers w (start_in words w) c
      → ((d : ℕ) → IsListed log.workers w (start_in words w) d → d ≤ c) → identifier_in words w ≡ (checkpoint_of log.workers w c).identifier
  pub none : (w : ℕ) → w < worker_count log.workers → ((c : ℕ) → IsListed log.workers w (start_in words w) c → ⊥) → identifier_in words w ≡ 0
