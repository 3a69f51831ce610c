-- What the contract of the visit behind the lower cut cites.
-- Assumes nothing.
use Rattle.std.specs.Prelude.{◌≡◌, ◌≢◌, List, ℕ, ◌<◌, ◌≤◌}
use Rattle.ranges.specs.Fold.{sum_below}
use Rattle.event_log.specs.Model.{Workers, worker_count, event_of, IsEvent}
use Rattle.lent.specs.Lent.{at}
use Rattle.causality.specs.Cut.{component, IsCut}

-- the sum of a cut's words: an event's visits leave it at least as large as the visits made
unfoldable pub word_sum : Workers → List ℕ → ℕ
word_sum log cut = sum_below (at cut) (worker_count log)

-- event e of worker i may be visited by a scan of its events after the first `from` alone: the earlier ones name nothing above the cut,
-- and neither do the events within the cut of a worker whose last one has a smaller stamp
pub record Visiting (log : Workers) (i from e : ℕ) (cut : List ℕ) (visits : ℕ) : Type 0 where
  pub event : IsEvent log i e
  pub is_cut : IsCut log cut
  pub own : at cut i ≡ e
  pub before : (u : ℕ) → u < worker_count log → u ≢ i → component log i from u ≤ at cut u
  pub settled : (u : ℕ) → u ≢ i → (event_of log u (at cut u)).stamp < (event_of log i e).stamp
      → (x : ℕ) → x < worker_count log → component log u (at cut u) x ≤ at cut x
  pub few : visits ≤ word_sum log cut
