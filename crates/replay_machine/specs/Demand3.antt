-- Demand 3: the restore plan is the latest that works, stated once, of the words that one call leaves.
-- Assumes nothing.
use Rattle.std.specs.Prelude.{◌≡◌, ◌↔◌, ◌⊎◌, ◌≢◌, List, ℕ, ◌+◌, ◌<◌, ◌≤◌, get_or}
use Rattle.lent.specs.Lent.{at}
use Rattle.records.specs.declared.Checkpoint.{Checkpoint}
use Rattle.event_log.specs.Model.{Workers, worker_count, IsEvent}
use Rattle.records.specs.Checkpoint.{initial}
use Rattle.causality.specs.Happened.{HappenedBefore}
use Rattle.causality.specs.Cut.{Within, receives_within}
use Rattle.lower_cut.specs.Figure2.{lower_cut}
use Rattle.choice.specs.Choice.{IsChoice, starts_of}
use Rattle.restore_plan.specs.Plan.{plan_choice, plan_words}
use Rattle.cost.specs.Words.{cut_in, identifier_in, cuts_in, starts_in}
use Rattle.unit_table.specs.Table.{Table}
use Rattle.cost.specs.Cost.{events_of, units_of}
use Rattle.restore_plan.specs.Calls.{found_plan, plan_totals}
use Rattle.replay_machine.specs.Machine.{listed, step_words, done_in, AtCut, Works}
use Rattle.replay_machine.specs.Calls.{machine_answer, machine_run, machine_after}

-- "Every other choice that works is a rival of the plan"
pub record Rival (log : Workers) (cut : List ℕ) (chosen other : List Checkpoint) : Type 0 where
  pub is_choice : IsChoice log cut other
  pub works : Works log cut (starts_of other)
  pub another : other ≢ chosen

-- the choice behind plan words
abbrev pub choice_in : Workers → List ℕ → List Checkpoint
choice_in log words = plan_choice log (cuts_in log words)

-- demand 3, for the workers of an accepted log, breakpoint event e of worker i, the table of the call and a list of worker numbers: of the
-- totals (visits, events, units, workers word), the plan words, the position words and the words of the steps as they were left
pub record Demand3 (log : Workers) (i e : ℕ) (table : Table) (workers totals words positions steps : List ℕ) : Type 0 where
  -- 1: "its words, identifiers too, visits, events and units are those of 01's definitions", and the workers word
  pub planned : words ≡ plan_words log (lower_cut log i e)
  pub counted : totals ≡ plan_totals (found_plan table log i e)
  -- 2: "an event is within the cut exactly when it is the breakpoint event or happened before it"
  pub within : (w x : ℕ) → IsEvent log w x → (x ≤ cut_in words w) ↔ (((w ≡ i) × (x ≡ e)) ⊎ HappenedBefore log w x i e)
  -- 3: "The visits made, as returned, number at most 1 + the receives within the cut"
  pub visited : at totals 0 ≤ 1 + receives_within log (cuts_in log words)
  -- 4: the plan "is a choice of checkpoints": word 3w + 1 is the index of worker w's checkpoint, and word 3w + 2 its identifier; it works
  pub chosen : IsChoice log (cuts_in log words) (choice_in log words)
  pub starting : starts_of (choice_in log words) ≡ starts_in log words
  pub identified : (w : ℕ) → w < worker_count log → identifier_in words w ≡ (get_or (choice_in log words) w initial).identifier
  pub works : Works log (cuts_in log words) (starts_in log words)
  -- 5: "For every list of step calls .. answers and positions are the machine's", ..
  pub stepped : steps ≡ listed step_words (machine_run log words (starts_in log words) workers)
  pub placed : positions ≡ machine_after log words (starts_in log words) workers
  -- .. "After it, some worker's step would be done unless all are at their cuts", ..
  pub progress : AtCut log (cuts_in log words) positions ⊎ ((w : ℕ) × (w < worker_count log) × (machine_answer log words positions w ≡ 0))
  -- .. "and all are there exactly when the steps done in the list number the events returned"
  pub finished : AtCut log (cuts_in log words) positions ↔ (done_in (machine_run log words (starts_in log words) workers) ≡ at totals 1)
  -- 6: every rival "starts no worker later and replays at least as many events and at least as many units"; "For every loaded table the
  -- plan replays no more units than any rival choice"
  pub latest : (other : List Checkpoint) → Rival log (cuts_in log words) (choice_in log words) other
      → Within (starts_of other) (starts_in log words)
      × (at totals 1 ≤ events_of log (cuts_in log words) (starts_of other))
      × (at totals 2 ≤ units_of table log (cuts_in log words) (starts_of other))
