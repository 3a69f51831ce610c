-- What the pass that asks for any fault has seen of a log: it takes a block of events of each worker in turn, and lists those
-- that name another: where no event has a fault, these are the receives.
-- Assumes nothing.
use Rattle.std.specs.Prelude.{◌≡◌, Bool, true, false, List, ℕ, min, ◌+◌, ◌<◌, ◌≤◌}
use Rattle.ranges.specs.Fold.{any_below}
use Rattle.lent.specs.Lent.{at}
use Rattle.event_log.specs.Model.{Workers, worker_count, event_count, event_of}
use Rattle.record_tests.specs.Records.{record_fault}
use Rattle.event_pass.specs.Inner.Message.{is_naming, own_fault, naming_fault}

-- the events of a block
abbrev pub block_size : ℕ
block_size = 128

-- whether one of the first x events of worker w fails one of the tests 7 to 10
unfoldable pub fault_within : ℕ → Workers → ℕ → Bool
fault_within x log w = any_below (record_fault 0 log w) (min x (event_count log w))

-- whether one of the first x events of some worker does
unfoldable pub some_within : ℕ → Workers → Bool
some_within x log = any_below (fault_within x log) (worker_count log)

-- a list of events has k where event k + 1 is meant: whether number j of it is no receive, or fails test 9 or 10
unfoldable pub listed_fault : Workers → ℕ → List ℕ → ℕ → Bool
listed_fault log w list j = naming_fault log w (event_of log w (at list j + 1))

-- event k + 1 of worker w names another, and its peer is a worker
pub record NamesAnother (log : Workers) (w k : ℕ) : Type 0 where
  pub within : k < event_count log w
  pub naming : is_naming (event_of log w (k + 1)) ≡ true
  pub peer : (event_of log w (k + 1)).peer < worker_count log

-- the first `count` numbers of a list are those of the events first + 1 to `end` of worker w that name another, and none of these events has a
-- fault of its own
pub record Lists (log : Workers) (w first end : ℕ) (list : List ℕ) (count : ℕ) : Type 0 where
  pub few : first + count ≤ end
  pub own : (k : ℕ) → first ≤ k → k < end → own_fault log w (event_of log w k).stamp (event_of log w (k + 1)) ≡ false
  pub each : (j : ℕ) → j < count → (first ≤ at list j) × (at list j < end) × NamesAnother log w (at list j)
  pub all : (k : ℕ) → first ≤ k → k < end → is_naming (event_of log w (k + 1)) ≡ true → (j : ℕ) × (j < count) × (at list j ≡ k)
