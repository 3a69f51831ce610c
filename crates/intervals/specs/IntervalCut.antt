-- Interval cuts of document 02, Note 9, over the workers of an interval log, whose events are the receives alone. An interval cut is a list
-- of one interval number for each worker; interval k of a worker is within it where k is at most the worker's number, and so is receive k,
-- which begins it. Assumes nothing.
use Rattle.std.specs.Prelude.{◌≡◌, List, ℕ, ◌<◌, ◌≤◌, length}
use Rattle.ranges.specs.Fold.{tabulate}
use Rattle.lent.specs.Lent.{at}
use Rattle.event_log.specs.Model.{Workers, worker_count, event_count, event_of, IsEvent}
use Rattle.causality.specs.Cut.{receives_of}
use Rattle.lower_cut.specs.Figure2.{lower_cut}
use Rattle.intervals.specs.declared.IntervalNumber.{IntervalNumber}
use Rattle.intervals.specs.Interval.{index, interval_at}

-- each worker has a number from 0 to its receives
pub record IsIntervalCut (log : Workers) (cut : List ℕ) : Type 0 where
  pub long : length cut ≡ worker_count log
  pub within : (w : ℕ) → at cut w ≤ event_count log w

-- "An interval cut is closed when each receive within it names an interval within it"
pub record Closed (log : Workers) (cut : List ℕ) : Type 0 where
  pub is_cut : IsIntervalCut log cut
  pub named : (w j : ℕ) → 0 < j → j ≤ at cut w → (event_of log w j).send ≤ at cut (event_of log w j).peer

-- "the least closed interval cut that holds" interval m of worker i
pub record IsLeastClosed (log : Workers) (i : ℕ) (m : IntervalNumber) (cut : List ℕ) : Type 0 where
  pub closed : Closed log cut
  pub holds : m.0 ≤ at cut i
  pub least : (other : List ℕ) → Closed log other → m.0 ≤ at other i → (w : ℕ) → at cut w ≤ at other w

-- "worker by worker, the receives within the lower cut" of event e of worker i
unfoldable pub receives_of_cut : Workers → ℕ → ℕ → List ℕ
receives_of_cut log i e = tabulate (receives_of log (lower_cut log i e)) (worker_count log)

-- "the least closed interval cut that holds the breakpoint's interval (its worker's receives up to it, itself included) equals, worker by
-- worker, the receives within the lower cut": of a log and the workers of its interval log, for breakpoint event e of worker i
pub record SameCut (log intervals : Workers) (i e : ℕ) : Type 0 where
  pub is : IsLeastClosed intervals i (interval_at log i (index e)) (receives_of_cut log i e)
  pub only : (cut : List ℕ) → IsLeastClosed intervals i (interval_at log i (index e)) cut → cut ≡ receives_of_cut log i e

-- .. for every breakpoint
abbrev pub SameCuts : Workers → Workers → Type 0
SameCuts log intervals = (i e : ℕ) → IsEvent log i e → SameCut log intervals i e
