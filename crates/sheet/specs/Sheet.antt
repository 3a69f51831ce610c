-- The yearbook sheet: document 02, Note 10.
-- Assumes nothing.
use Rattle.std.specs.Prelude.{cond, List, ℕ, ◌*◌, ◌/◌, ◌%◌, eqb, ltb}
use Rattle.ranges.specs.Fold.{sum_below, tabulate}
use Rattle.lent.specs.Lent.{at, word_of}
use Rattle.event_log.specs.Model.{Workers, worker_count}
use Rattle.lower_cut.specs.Figure2.{lower_cut}
use Rattle.unit_table.specs.Table.{Table}
use Rattle.cost.specs.Cost.{replayed, worker_units}
use Rattle.restore_plan.specs.Plan.{plan_starts}
use Rattle.breakpoints.specs.Breakpoints.{listed_worker, listed_event, breakpoint_count}

-- "three 64-bit words for each worker in order: events, units, plans": what a plan of this cut and these starts adds to word j, the plan
-- itself counting where it replays "at least one event of it"
unfoldable pub plan_adds : Table → Workers → List ℕ → List ℕ → ℕ → ℕ
plan_adds table log cut starts j =
    cond (eqb (j % 3) 0) (replayed cut starts (j / 3))
    (cond (eqb (j % 3) 1) (worker_units table log cut starts (j / 3)) (word_of (ltb (at starts (j / 3)) (at cut (j / 3)))))

-- .. and the plan of breakpoint k of a list, of its lower cut
abbrev pub listed_cut : Workers → List ℕ → ℕ → List ℕ
listed_cut log list k = lower_cut log (listed_worker list k) (listed_event list k)

unfoldable pub listed_adds : Table → Workers → List ℕ → ℕ → ℕ → ℕ
listed_adds table log list j k = plan_adds table log (listed_cut log list k) (plan_starts log (listed_cut log list k)) j

-- the sums over the first k breakpoints ..
unfoldable pub sheet_up_to : Table → Workers → List ℕ → ℕ → List ℕ
sheet_up_to table log list k = tabulate (λ j. sum_below (listed_adds table log list j) k) (3 * worker_count log)

-- .. and "summed over the list"
unfoldable pub sheet_words : Table → Workers → List ℕ → List ℕ
sheet_words table log list = sheet_up_to table log list (breakpoint_count list)
