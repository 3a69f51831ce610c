-- Events and units of document 01, "Plan": what a replay from given starts to the cut takes.
-- Assumes nothing.
use Rattle.std.specs.Prelude.{cond, List, ℕ, ◌+◌, ◌-◌, leb}
use Rattle.ranges.specs.Fold.{sum_below}
use Rattle.event_log.specs.Model.{Workers, worker_count, role_of, event_of}
use Rattle.lent.specs.Lent.{at}
use Rattle.unit_table.specs.Table.{Table}

unfoldable pub replayed : List ℕ → List ℕ → ℕ → ℕ
replayed cut starts w = at cut w - at starts w

-- "Events is the sum of cut minus start"
unfoldable pub events_of : Workers → List ℕ → List ℕ → ℕ
events_of log cut starts = sum_below (replayed cut starts) (worker_count log)

-- event k + 1 of worker w counts where it is after the start
unfoldable pub event_units : Table → Workers → List ℕ → ℕ → ℕ → ℕ
event_units table log starts w k = cond (leb (at starts w) k) (table (role_of log w) (event_of log w (k + 1)).kind) 0

unfoldable pub worker_units : Table → Workers → List ℕ → List ℕ → ℕ → ℕ
worker_units table log cut starts w = sum_below (event_units table log starts w) (at cut w)

-- "Units is the sum over replayed events of this table"
unfoldable pub units_of : Table → Workers → List ℕ → List ℕ → ℕ
units_of table log cut starts = sum_below (worker_units table log cut starts) (worker_count log)
