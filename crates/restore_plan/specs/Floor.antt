-- A lower bound of every start: "A floor under every start", document 02, note 4.
-- Assumes nothing.
use Rattle.std.specs.Prelude.{◌≡◌, true, List, ℕ, ◌<◌, ◌≤◌}
use Rattle.lent.specs.Lent.{at}
use Rattle.event_log.specs.Model.{Workers, worker_count, checkpoint_of}
use Rattle.lower_cut.specs.Figure2.{lower_cut}
use Rattle.cost.specs.Words.{start_in}
use Rattle.covering.specs.Covering.{is_set, covering_set}

-- "whose checkpoints are all at or below the .. cut": those with identifier t
abbrev pub AtOrBelow : Workers → ℕ → List ℕ → Type 0
AtOrBelow log t cut = (w c : ℕ) → w < worker_count log → is_set log t w c ≡ true → (checkpoint_of log w c).index ≤ at cut w

-- "the plan starts no worker before that set's checkpoint": the plan of these words
abbrev pub NoneBefore : Workers → ℕ → List ℕ → Type 0
NoneBefore log t words = (w c : ℕ) → w < worker_count log → is_set log t w c ≡ true → (checkpoint_of log w c).index ≤ start_in words w

-- "for every accepted log, every breakpoint event and every identifier that covers and whose checkpoints are all at or below the lower cut,
-- the plan starts no worker before that set's checkpoint": for the workers of the log, event e of worker i and the words of the plan
pub record Floor (log : Workers) (i e : ℕ) (words : List ℕ) : Type 0 where
  pub floor : (t : ℕ) → covering_set log t ≡ true → AtOrBelow log t (lower_cut log i e) → NoneBefore log t words
  -- "Identifier 0 is included": the initial states cover, and are at or below the lower cut
  pub included : (covering_set log 0 ≡ true) × AtOrBelow log 0 (lower_cut log i e)
