-- The upper line of document 01, "Beside the plan".
-- Assumes nothing.
use Rattle.std.specs.Prelude.{Bool, not, ◌&&◌, List, ℕ, ◌+◌, eqb, leb}
use Rattle.ranges.specs.Fold.{first_below, tabulate}
use Rattle.event_log.specs.Model.{Workers, worker_count, event_count}
use Rattle.lent.specs.Lent.{at}
use Rattle.lower_cut.specs.Figure2.{lower_cut}

-- whether event e of worker i happened before event k + 1 of worker w: it is within that event's lower cut, and is another event
unfoldable pub happened : Workers → ℕ → ℕ → ℕ → ℕ → Bool
happened log i e w k = leb e (at (lower_cut log w (k + 1)) i) && not (eqb i w && eqb e (k + 1))

-- "for each worker the events before the first one that the breakpoint event happened before; all its events if there is none"
unfoldable pub upper_at : Workers → ℕ → ℕ → ℕ → ℕ
upper_at log i e w = first_below (happened log i e w) (event_count log w)

unfoldable pub upper_line : Workers → ℕ → ℕ → List ℕ
upper_line log i e = tabulate (upper_at log i e) (worker_count log)
