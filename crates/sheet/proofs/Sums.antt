-- The sums of a sheet: over no breakpoint, over one more, and that they fit. Assumes nothing.
use mathlib.Core.Path.{◌≡◌, sym, ◌∙◌}
use mathlib.Core.List.{List}
use Prim.Native.Nat.{ℕ, ◌+◌, ◌*◌, ◌^◌, ◌<◌, ◌≤◌}
use native.Mathlib.Nat.{le_trans, mul-le-mul_right}
use native.Mathlib.Omega.{arith}
use lib.ListN.{length, replicate, length-replicate}
use Rattle.ranges.specs.Fold.{sum_below, tabulate}
use Rattle.ranges.proofs.Sum.{sum_none, sum_more, sum_bound}
use Rattle.ranges.proofs.Tabulate.{length_tabulate, get_d_tabulate, tabulate_list, tabulate_same, get_d_replicate_all}
use Rattle.lent.specs.Lent.{at}
use Rattle.event_log.specs.Limits.{max_events}
use Rattle.event_log.specs.Layout.{workers_of}
use Rattle.event_log.specs.Model.{Workers, worker_count}
use Rattle.accept.proofs.Accepted.{well_formed}
use Rattle.causality.specs.Cut.{IsCut}
use Rattle.unit_table.specs.Table.{Table, max_units, table_of}
use Rattle.unit_table.proofs.Loaded.{loaded_bound}
use Rattle.restore_plan.specs.Plan.{plan_starts}
use Rattle.restore_plan.proofs.Written.{lower_is_cut}
use Rattle.breakpoints.specs.Breakpoints.{max_breakpoints, listed_worker, listed_event, breakpoint_count}
use Rattle.sheet.specs.Sheet.{listed_cut, listed_adds, sheet_up_to, sheet_words}
use Rattle.sheet.specs.Inner.Adding.{Summable}
use Rattle.sheet.proofs.Columns.{adds_bound}

module _ (table : Table) (log : Workers) (list : List ℕ) where
  -- word j over the first k breakpoints
  abbrev sum_of : ℕ → ℕ → ℕ
  sum_of k j = sum_below (listed_adds table log list j) k

  pub sheet_long : (k : ℕ) → length (sheet_up_to table log list k) ≡ 3 * worker_count log
  unfolding sheet_up_to
  sheet_long k = length_tabulate (sum_of k) (3 * worker_count log)

  pub words_long : length (sheet_words table log list) ≡ 3 * worker_count log
  unfolding sheet_words
  words_long = sheet_long _

  pub sheet_at : (k j : ℕ) → j < 3 * worker_count log → at (sheet_up_to table log list k) j ≡ sum_of k j
  unfolding sheet_up_to
  sheet_at k j h = get_d_tabulate (sum_of k) (3 * worker_count log) j 0 h

  -- over no breakpoint every sum is 0
  pub sheet_none : replicate (3 * worker_count log) 0 ≡ sheet_up_to table log list 0
  unfolding sheet_up_to
  sheet_none =
      tabulate_list (sum_of 0) (3 * worker_count log) 0 (replicate (3 * worker_count log) 0) (length-replicate (3 * worker_count log) 0)
      (λ j h. get_d_replicate_all (3 * worker_count log) j 0 ∙ sym (sum_none (listed_adds table log list j)))

  -- words that are the sums over the first k
  sheet_from : (k : ℕ) (word : ℕ → ℕ) → ((j : ℕ) → j < 3 * worker_count log → word j ≡ sum_of k j) → tabulate word (3 * worker_count log) ≡ sheet_up_to table log list k
  unfolding sheet_up_to
  sheet_from k word same = tabulate_same word (sum_of k) (3 * worker_count log) same

  -- over one more each word has more what its plan adds
  pub sheet_more : (k : ℕ) (adds : ℕ → ℕ) → ((j : ℕ) → adds j ≡ listed_adds table log list j k)
      → tabulate (λ (j : ℕ). at (sheet_up_to table log list k) j + adds j) (3 * worker_count log) ≡ sheet_up_to table log list (k + 1)
  sheet_more k adds same = sheet_from (k + 1) _ (λ j h. rw (sheet_at k j h, same j) (sym (sum_more (listed_adds table log list j) k)))

module _ (s list table : List ℕ) (given : Summable s list table) where
  -- the cut of breakpoint k is one of the log
  pub listed_is_cut : (k : ℕ) → k < breakpoint_count list → IsCut (workers_of s) (listed_cut (workers_of s) list k)
  listed_is_cut k h = lower_is_cut s (listed_worker list k) (listed_event list k) given.accepted (given.are.event k h)

  -- a bound on what each breakpoint adds bounds the sums
  pub list_bound : (f : ℕ → ℕ) (k b : ℕ) → k ≤ breakpoint_count list → ((i : ℕ) → i < k → f i ≤ b) → sum_below f k ≤ max_breakpoints * b
  list_bound f k b few all = le_trans (sum_bound f k b all) (mul-le-mul_right b (le_trans few given.are.few))

  listed_bound : (j k : ℕ) → k < breakpoint_count list → listed_adds (table_of table) (workers_of s) list j k ≤ max_events * max_units
  unfolding listed_adds
  listed_bound j k h =
      let log = workers_of s in
      adds_bound (table_of table) log (well_formed s given.accepted) (listed_cut log list k) (plan_starts log (listed_cut log list k)) (listed_is_cut k h) (loaded_bound table given.loaded) j

  -- with what one more breakpoint of the list adds, a sum fits a 64-bit word
  pub sum_fits : (j k : ℕ) → k < breakpoint_count list
      → sum_below (listed_adds (table_of table) (workers_of s) list j) k + listed_adds (table_of table) (workers_of s) list j k < 2 ^ 64
  sum_fits j k h =
      let adds = listed_adds (table_of table) (workers_of s) list j in
      let next : k + 1 ≤ breakpoint_count list = omega (arith, h) in
      let all = list_bound adds (k + 1) (max_events * max_units) next (λ i l. listed_bound j i (omega (arith, l, h))) in
      omega (arith, sum_more adds k, all)
