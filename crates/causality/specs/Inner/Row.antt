-- What the contracts of this crate's own loops cite.
-- Assumes nothing.
use Rattle.std.specs.Prelude.{cond, List, ℕ, max, leb, set}
use Rattle.ranges.specs.Fold.{max_below, tabulate}
use Rattle.records.specs.declared.Event.{Event}
use Rattle.event_log.specs.Model.{Workers, worker_count}
use Rattle.records.specs.Event.{is_receive}
use Rattle.lent.specs.Lent.{at}
use Rattle.causality.specs.Cut.{named_of}

-- what event k + 1 of worker i names of worker v, of the events after the first `from`
unfoldable pub named_after : Workers → ℕ → ℕ → ℕ → ℕ → ℕ
named_after log i from v k = cond (leb from k) (named_of log i v k) 0

-- the largest index that events from + 1 .. e of worker i name of worker v
unfoldable pub largest_after : Workers → ℕ → ℕ → ℕ → ℕ → ℕ
largest_after log i from e v = max_below (named_after log i from v) e

-- what those events name of each worker
unfoldable pub named_row : Workers → ℕ → ℕ → ℕ → List ℕ
named_row log i from e = tabulate (largest_after log i from e) (worker_count log)

-- the words after event e is noted: a receive raises its peer's word to the send that it names
unfoldable pub noted : Event → List ℕ → List ℕ
noted e words = cond (is_receive e) (set words e.peer (max (at words e.peer) e.send)) words
