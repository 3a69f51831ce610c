-- The sums of a sheet are those of the single plans: document 02, Note 10.
-- Assumes nothing.
use Rattle.std.specs.Prelude.{◌≡◌, List, [], ◌++◌, ℕ, ◌+◌, ◌-◌, ◌*◌, ◌%◌, ◌<◌, ◌≤◌, ltb, length, replicate}
use Rattle.ranges.specs.Fold.{sum_below}
use Rattle.lent.specs.Lent.{at, word_of}
use Rattle.event_log.specs.Limits.{max_events}
use Rattle.event_log.specs.Model.{Workers, worker_count}
use Rattle.unit_table.specs.Table.{Table, max_units}
use Rattle.cost.specs.Words.{cut_in, start_in, cuts_in, starts_in}
use Rattle.cost.specs.Cost.{worker_units}
use Rattle.restore_plan.specs.declared.Totals.{Totals}
use Rattle.restore_plan.specs.Calls.{found_plan, planned_words}
use Rattle.breakpoints.specs.Breakpoints.{max_breakpoints, listed_worker, listed_event, breakpoint_count}
use Rattle.sheet.specs.Sheet.{sheet_words}

-- the words that the single plan call writes for breakpoint k, and the numbers that it returns
abbrev pub single_words : Workers → List ℕ → ℕ → List ℕ
single_words log list k = planned_words log (listed_worker list k) (listed_event list k)

abbrev pub single_plan : Table → Workers → List ℕ → ℕ → Totals
single_plan table log list k = found_plan table log (listed_worker list k) (listed_event list k)

-- of the words that a call writes for a list of breakpoints of a log, with a unit table
pub record Summed (table : Table) (log : Workers) (list sheet : List ℕ) : Type 0 where
  -- "for each worker the replayed events and units summed over the list, and the number of plans that replay at least one event of it"
  pub events : (w : ℕ) → w < worker_count log
      → at sheet (3 * w) ≡ sum_below (λ k. cut_in (single_words log list k) w - start_in (single_words log list k) w) (breakpoint_count list)
  pub units : (w : ℕ) → w < worker_count log
      → at sheet (3 * w + 1) ≡ sum_below (λ k. worker_units table log (cuts_in log (single_words log list k)) (starts_in log (single_words log list k)) w) (breakpoint_count list)
  pub plans : (w : ℕ) → w < worker_count log
      → at sheet (3 * w + 2) ≡ sum_below (λ k. word_of (ltb (start_in (single_words log list k) w) (cut_in (single_words log list k) w))) (breakpoint_count list)
  -- "equal those of the single plans"
  pub all_events : sum_below (λ w. at sheet (3 * w)) (worker_count log) ≡ sum_below (λ k. (single_plan table log list k).events) (breakpoint_count list)
  pub all_units : sum_below (λ w. at sheet (3 * w + 1)) (worker_count log) ≡ sum_below (λ k. (single_plan table log list k).units) (breakpoint_count list)
  -- "The sums are exact": each is at most what the limits of a list, a log and a table allow, far below 2 ^ 64
  pub few_events : (w : ℕ) → w < worker_count log → at sheet (3 * w) ≤ max_breakpoints * max_events
  pub few_units : (w : ℕ) → w < worker_count log → at sheet (3 * w + 1) ≤ max_breakpoints * max_events * max_units
  pub few_plans : (w : ℕ) → w < worker_count log → at sheet (3 * w + 2) ≤ max_breakpoints
  -- "a footnote listed twice counts twice": the sheet of two lists, one behind the other, is the sum of theirs ..
  pub joined : (a b : List ℕ) → list ≡ a ++ b → length a % 2 ≡ 0 → (j : ℕ) → at sheet j ≡ at (sheet_words table log a) j + at (sheet_words table log b) j
  -- .. "and an empty list gives zeros"
  pub none : list ≡ [] → sheet ≡ replicate (3 * worker_count log) 0
