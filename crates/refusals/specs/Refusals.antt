-- Refusals 12 to 16 of document 01, 15 as note 8 of document 02 has it, and the chains that the calls share: each is the first number
-- that applies.
-- Assumes nothing.
use Rattle.std.specs.Prelude.{Bool, cond, ◌||◌, List, ℕ, ◌*◌, eqb, leb, ltb}
use Rattle.ranges.specs.Fold.{any_below}
use Rattle.lent.specs.Lent.{at, or_else, words_refusal}
use Rattle.event_log.specs.Model.{Workers, worker_count, event_count}
use Rattle.accept.specs.Refusal.{Given}

-- 12: "worker number not below n"
unfoldable pub worker_refusal : Workers → ℕ → ℕ
worker_refusal log w = cond (leb (worker_count log) w) 12 0

-- 13: "event 0 or over the worker's count"
unfoldable pub event_refusal : Workers → ℕ → ℕ → ℕ
event_refusal log w e = cond (eqb e 0 || ltb (event_count log w) e) 13 0

-- "from 2 × n scratch words, or from one where n is 1" (02, note 8)
unfoldable pub scratch_words : ℕ → ℕ
scratch_words n = cond (eqb n 1) 1 (2 * n)

-- 15: "scratch too short": "Refusal 15 is for fewer than that"
unfoldable pub scratch_refusal : Workers → ℕ → ℕ
scratch_refusal log lent = cond (ltb lent (scratch_words (worker_count log))) 15 0

-- 16: "a cut word over the event count"
unfoldable pub over_count : Workers → List ℕ → ℕ → Bool
over_count log words w = ltb (event_count log w) (at words w)

unfoldable pub cut_refusal : Workers → List ℕ → ℕ
cut_refusal log words = cond (any_below (over_count log words) (worker_count log)) 16 0

-- 12, then 13: whether event e of worker w is in a log that is accepted
abbrev pub event_in_refusal : Workers → ℕ → ℕ → ℕ
event_in_refusal log w e = or_else (worker_refusal log w) (event_refusal log w e)

-- the log's, then 12 and 13: of a call for an event
unfoldable pub breakpoint_refusal : Given → ℕ → ℕ → ℕ
breakpoint_refusal log w e = or_else log.refusal (or_else (worker_refusal log.workers w) (event_refusal log.workers w e))

-- the log's, then 12 to 14: of a call that writes `each` words for each worker into those lent; `others` is 14 where something else lent is too short
unfoldable pub line_refusal : Given → ℕ → ℕ → ℕ → ℕ → ℕ → ℕ
line_refusal log w e each lent others =
    or_else (breakpoint_refusal log w e) (or_else (words_refusal lent (each * worker_count log.workers)) others)

-- the log's, then 12 to 15: of a call that is lent scratch too, the lower cut and the plan
unfoldable pub search_refusal : Given → ℕ → ℕ → ℕ → ℕ → ℕ → ℕ → ℕ
search_refusal log w e each lent others scratch = or_else (line_refusal log w e each lent others) (scratch_refusal log.workers scratch)

-- the log's, then 14 and 16: of the cut test
unfoldable pub test_refusal : Given → List ℕ → ℕ → ℕ → ℕ
test_refusal log words lent others =
    or_else log.refusal (or_else (or_else (words_refusal lent (worker_count log.workers)) others) (cut_refusal log.workers words))
