-- Covering sets of document 01, "Beside the plan", with the sends at the checkpoint itself counted (document 02, note 3).
-- Assumes nothing.
use Rattle.std.specs.Prelude.{◌≡◌, Bool, true, not, ◌&&◌, ◌↔◌, List, ℕ, ◌+◌, ◌<◌, ◌≤◌, eqb, get_or}
use Rattle.ranges.specs.Fold.{any_below, last_below, tabulate}
use Rattle.records.specs.declared.Checkpoint.{Checkpoint}
use Rattle.event_log.specs.Model.{Workers, worker_count, event_count, event_of, checkpoint_count, checkpoint_of}
use Rattle.records.specs.Checkpoint.{initial}
use Rattle.records.specs.Event.{is_receive, is_logged}
use Rattle.choice.specs.Choice.{may_choose, IsChoice, starts_of, Startable, is_startable}

-- checkpoint c of worker w has identifier t; "For t = 0 the initial states are meant": checkpoint 0 alone has identifier 0
unfoldable pub is_set : Workers → ℕ → ℕ → ℕ → Bool
is_set log t w c = may_choose log w c && eqb (checkpoint_of log w c).identifier t

-- "identifier t covers when every worker has a checkpoint t, and every receive after its worker's checkpoint t, of a send with index ..
-- smaller than or equal to the sender's checkpoint index .. is kind 3": 01's words with those of 02
pub record Covers (log : Workers) (t : ℕ) (number : ℕ → ℕ) : Type 0 where
  pub has : (w : ℕ) → w < worker_count log → is_set log t w (number w) ≡ true
  pub logged : (w k : ℕ) → (checkpoint_of log w (number w)).index ≤ k → k < event_count log w → is_receive (event_of log w (k + 1)) ≡ true
      → (event_of log w (k + 1)).send ≤ (checkpoint_of log (event_of log w (k + 1)).peer (number (event_of log w (k + 1)).peer)).index
      → is_logged (event_of log w (k + 1)) ≡ true

-- the cut of all events
unfoldable pub cut_of_all : Workers → List ℕ
cut_of_all log = tabulate (event_count log) (worker_count log)

-- every worker has a checkpoint t, and these checkpoints are a choice that is startable for the cut of all events
pub record StartableSet (log : Workers) (t : ℕ) (choice : List Checkpoint) : Type 0 where
  pub is_choice : IsChoice log (cut_of_all log) choice
  pub has : (w : ℕ) → w < worker_count log → (get_or choice w initial).identifier ≡ t
  pub startable : Startable log (cut_of_all log) (starts_of choice)

-- worker w is without a checkpoint t
unfoldable pub without_set : Workers → ℕ → ℕ → Bool
without_set log t w = not (any_below (is_set log t w) (checkpoint_count log w + 1))

-- the index of worker w's checkpoint t; and of each worker's, as starts
unfoldable pub index_of : Workers → ℕ → ℕ → ℕ
index_of log w c = (checkpoint_of log w c).index

unfoldable pub set_index : Workers → ℕ → ℕ → ℕ
set_index log t w = last_below (is_set log t w) (index_of log w) (checkpoint_count log w + 1)

unfoldable pub set_starts : Workers → ℕ → List ℕ
set_starts log t = tabulate (set_index log t) (worker_count log)

-- the covering test: no worker is without a checkpoint t, and their indices are startable for the cut of all events
unfoldable pub covering_set : Workers → ℕ → Bool
covering_set log t = not (any_below (without_set log t) (worker_count log)) && is_startable log (cut_of_all log) (set_starts log t)

-- what the test's answer, 1 or 0, tells: an identifier covers exactly when every worker has that checkpoint and these checkpoints are
-- startable for the cut of all events
pub record CoversWhenStartable (log : Workers) (t answer : ℕ) : Type 0 where
  pub covers : (answer ≡ 1) ↔ ((number : ℕ → ℕ) × Covers log t number)
  pub startable : (answer ≡ 1) ↔ ((choice : List Checkpoint) × StartableSet log t choice)
