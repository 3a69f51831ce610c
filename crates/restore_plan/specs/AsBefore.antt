-- The plan with the built-in table: document 02, Note 7.
-- Assumes nothing.
use Rattle.std.specs.Prelude.{◌≡◌, List, ℕ}
use Rattle.lent.specs.Lent.{unless_refused}
use Rattle.accept.specs.Refusal.{Given}
use Rattle.refusals.specs.Refusals.{search_refusal}
use Rattle.unit_table.specs.Table.{built_in}
use Rattle.restore_plan.specs.Calls.{found_plan, plan_totals}

-- document 01's plan, which takes no table: the log's numbers and 12 to 15 (as note 8 has 15) alone refuse it, and its units are by document
-- 01's table. A plan call with the built-in table, which "loads like any other", is this one: of the number returned, and of the totals as
-- lent and as left
pub record AsBefore (log : Given) (w e words others scratch number : ℕ) (totals left : List ℕ) : Type 0 where
  pub refused : number ≡ search_refusal log w e 3 words others scratch
  pub counted : left ≡ unless_refused number (plan_totals (found_plan built_in log.workers w e)) totals
