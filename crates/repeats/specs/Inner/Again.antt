-- A receive of a send that an earlier receive of the same worker names.
-- Assumes nothing.
use Rattle.std.specs.Prelude.{◌≡◌, Bool, true, ℕ, ◌+◌, ◌<◌, ◌≤◌}
use Rattle.ranges.specs.Fold.{any_below}
use Rattle.event_log.specs.Model.{Workers, worker_count, event_count, event_of}
use Rattle.records.specs.Event.{is_receive}
use Rattle.repeats.specs.Repeats.{same_send}

-- what the tests 7 and 9 leave of the events of a log
pub record Messages (log : Workers) : Type 0 where
  -- an event's peer is a worker
  pub peers : (w k : ℕ) → k < event_count log w → (event_of log w (k + 1)).peer < worker_count log
  -- a receive names an event of its peer, and that one's peer is the worker of the receive
  pub named : (w k : ℕ) → is_receive (event_of log w (k + 1)) ≡ true
      → (0 < (event_of log w (k + 1)).send) × ((event_of log w (k + 1)).send ≤ event_count log (event_of log w (k + 1)).peer)
  pub addressed : (w k : ℕ) → is_receive (event_of log w (k + 1)) ≡ true → (event_of log (event_of log w (k + 1)).peer (event_of log w (k + 1)).send).peer ≡ w

-- event l + 1 of worker w receives what event k + 1 receives
unfoldable pub same_as : Workers → ℕ → ℕ → ℕ → Bool
same_as log w l k = same_send (event_of log w (k + 1)) (event_of log w (l + 1))

-- event l + 1 of worker w receives what an event before it receives
unfoldable pub again : Workers → ℕ → ℕ → Bool
again log w l = any_below (same_as log w l) l

-- one of the events of worker w does
unfoldable pub worker_again : Workers → ℕ → Bool
worker_again log w = any_below (again log w) (event_count log w)

-- one of the events of some worker does
unfoldable pub some_again : Workers → Bool
some_again log = any_below (worker_again log) (worker_count log)
