-- The sheet of the first breakpoints of a list, and the plan of the next one added to it. Assumes nothing.
use mathlib.Core.Path.{◌≡◌}
use mathlib.Core.List.{List}
use Prim.Native.Nat.{ℕ, ◌+◌, ◌*◌, ◌^◌, ◌<◌}
use lib.ListN.{length}
use Rattle.ranges.specs.Fold.{tabulate}
use Rattle.event_log.specs.Layout.{workers_of}
use Rattle.event_log.specs.Model.{Workers, worker_count, IsEvent}
use Rattle.accept.proofs.Accepted.{well_formed}
use Rattle.unit_table.specs.Table.{table_of}
use Rattle.cost.specs.Words.{cuts_in, starts_in}
use Rattle.restore_plan.specs.Calls.{planned_words}
use Rattle.restore_plan.proofs.Written.{plan_cuts, plan_starts_in}
use Rattle.breakpoints.specs.Breakpoints.{listed_worker, listed_event, breakpoint_count}
use Rattle.sheet.specs.Sheet.{listed_cut, plan_adds, listed_adds, sheet_up_to}
use Rattle.sheet.specs.Inner.Adding.{Summable, added_at}
use Rattle.sheet.proofs.Sums.{sheet_long, sheet_at, sheet_more, listed_is_cut, sum_fits}

-- worker i and event e are those of breakpoint k, and the words its plan
module _ (s list table : List ℕ) (given : Summable s list table) (k : ℕ) (h : k < breakpoint_count list)
    {i e : ℕ} (worker : i ≡ listed_worker list k) (event : e ≡ listed_event list k) {words : List ℕ} (is : words ≡ planned_words (workers_of s) i e) where
  abbrev log : Workers
  log = workers_of s

  -- it is an event of the log
  pub listed_event_lem : (i < worker_count log) × IsEvent log i e
  listed_event_lem = rw (worker, event) (given.are.within k h, given.are.event k h)

  -- its words give what its plan adds
  planned_adds : (j : ℕ) → plan_adds (table_of table) log (cuts_in log words) (starts_in log words) j ≡ listed_adds (table_of table) log list j k
  unfolding listed_adds
  planned_adds j =
      let cut = listed_cut log list k in
      let is_cut = listed_is_cut s list table given k h in
      rw (is, worker, event, plan_cuts log cut is_cut, plan_starts_in log cut (well_formed s given.accepted) is_cut)

  module _ {sheet : List ℕ} (sums : sheet ≡ sheet_up_to (table_of table) log list k) where
    -- each sum with it fits a 64-bit word ..
    pub added_fits : (j : ℕ) → j < length sheet → added_at (table_of table) log words sheet j < 2 ^ 64
    added_fits j l =
        let below : j < 3 * worker_count log = rw (sums, sheet_long (table_of table) log list k) at l in
        rw (sums, sheet_at (table_of table) log list k j below, planned_adds j) (sum_fits s list table given j k h)

    -- .. and they are the sums with breakpoint k
    pub added_more : tabulate (added_at (table_of table) log words sheet) (length sheet) ≡ sheet_up_to (table_of table) log list (k + 1)
    added_more = rw (sums, sheet_long (table_of table) log list k) (sheet_more (table_of table) log list k _ planned_adds)
