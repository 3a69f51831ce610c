-- What a sheet is summed from, and a sheet with one plan more.
-- Assumes nothing.
use Rattle.std.specs.Prelude.{◌≡◌, List, ℕ, ◌+◌}
use Rattle.lent.specs.Lent.{at}
use Rattle.event_log.specs.Layout.{workers_of}
use Rattle.event_log.specs.Model.{Workers}
use Rattle.accept.specs.Refusal.{log_refusal}
use Rattle.unit_table.specs.Table.{Table, table_refusal}
use Rattle.cost.specs.Words.{cuts_in, starts_in}
use Rattle.breakpoints.specs.Inner.Listed.{AreBreakpoints}
use Rattle.sheet.specs.Sheet.{plan_adds}

-- an accepted log, a list of breakpoints of it, and a table that loads
pub record Summable (s list table : List ℕ) : Type 0 where
  pub accepted : log_refusal s ≡ 0
  pub are : AreBreakpoints (workers_of s) list
  pub loaded : table_refusal table ≡ 0

-- word j of a sheet after the plan in these words is added to it
abbrev pub added_at : Table → Workers → List ℕ → List ℕ → ℕ → ℕ
added_at table log words sheet j = at sheet j + plan_adds table log (cuts_in log words) (starts_in log words) j
