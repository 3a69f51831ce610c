-- What the call for an upper line returns and leaves.
-- Assumes nothing.
use Rattle.std.specs.Prelude.{List, ℕ, length}
use Rattle.lent.specs.Lent.{Left, leaves}
use Rattle.accept.specs.Refusal.{Given}
use Rattle.refusals.specs.Refusals.{line_refusal}
use Rattle.upper_line.specs.Upper.{upper_line}

-- `upper_line`: of a worker, an event and the words
abbrev pub upper_line_call : Given → ℕ → ℕ → List ℕ → Left
upper_line_call log w e words = leaves (line_refusal log w e 1 (length words) 0) (upper_line log.workers w e) words
