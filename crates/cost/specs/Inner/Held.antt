-- Plan words that are held over a log.
-- Assumes nothing.
use Rattle.std.specs.Prelude.{◌≡◌, List, ℕ, ◌*◌, length}
use Rattle.event_log.specs.Model.{Workers, worker_count}
use Rattle.causality.specs.Cut.{Within, IsCut}
use Rattle.cost.specs.Words.{cuts_in, starts_in}

-- plan words over a log: a cut, and starts within it
pub record IsHeld (log : Workers) (words : List ℕ) : Type 0 where
  pub long : length words ≡ 3 * worker_count log
  pub is_cut : IsCut log (cuts_in log words)
  pub within : Within (starts_in log words) (cuts_in log words)
