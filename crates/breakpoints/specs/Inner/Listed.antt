-- A list that is not refused.
-- Assumes nothing.
use Rattle.std.specs.Prelude.{◌≡◌, List, ℕ, ◌*◌, ◌<◌, ◌≤◌, length}
use Rattle.event_log.specs.Model.{Workers, worker_count, IsEvent}
use Rattle.breakpoints.specs.Breakpoints.{max_breakpoints, listed_worker, listed_event, breakpoint_count}

-- two words for each of at most 1,024 breakpoints, each of them an event of the log
pub record AreBreakpoints (log : Workers) (list : List ℕ) : Type 0 where
  pub even : length list ≡ 2 * breakpoint_count list
  pub few : breakpoint_count list ≤ max_breakpoints
  pub within : (k : ℕ) → k < breakpoint_count list → listed_worker list k < worker_count log
  pub event : (k : ℕ) → k < breakpoint_count list → IsEvent log (listed_worker list k) (listed_event list k)
