-- The plan words read back: "cut, start, identifier for each worker in order".
-- Assumes nothing.
use Rattle.std.specs.Prelude.{List, ℕ, ◌+◌, ◌*◌}
use Rattle.ranges.specs.Fold.{tabulate}
use Rattle.lent.specs.Lent.{at}
use Rattle.event_log.specs.Model.{Workers, worker_count}

unfoldable pub cut_in : List ℕ → ℕ → ℕ
cut_in words w = at words (3 * w)

unfoldable pub start_in : List ℕ → ℕ → ℕ
start_in words w = at words (3 * w + 1)

unfoldable pub identifier_in : List ℕ → ℕ → ℕ
identifier_in words w = at words (3 * w + 2)

-- the cut and the starts that plan words give the workers
unfoldable pub cuts_in : Workers → List ℕ → List ℕ
cuts_in log words = tabulate (cut_in words) (worker_count log)

unfoldable pub starts_in : Workers → List ℕ → List ℕ
starts_in log words = tabulate (start_in words) (worker_count log)
