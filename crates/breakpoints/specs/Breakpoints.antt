-- Lists of breakpoints: document 02, Note 10.
-- Assumes nothing.
use Rattle.std.specs.Prelude.{cond, ◌||◌, List, ℕ, ◌+◌, ◌*◌, ◌/◌, ◌%◌, eqb, ltb, length}
use Rattle.lent.specs.Lent.{at, or_else, first_of}
use Rattle.event_log.specs.Model.{Workers}
use Rattle.accept.specs.Refusal.{Given}
use Rattle.refusals.specs.Refusals.{event_in_refusal}

-- "a list of up to 1,024 breakpoints"
abbrev pub max_breakpoints : ℕ
max_breakpoints = 1024

-- "each two words, worker and event": those of breakpoint k, and how many there are
unfoldable pub listed_worker : List ℕ → ℕ → ℕ
listed_worker list k = at list (2 * k)

unfoldable pub listed_event : List ℕ → ℕ → ℕ
listed_event list k = at list (2 * k + 1)

unfoldable pub breakpoint_count : List ℕ → ℕ
breakpoint_count list = length list / 2

-- 29: "an odd number of words or more than 2,048"
unfoldable pub length_refusal : ℕ → ℕ
length_refusal words = cond (eqb (words % 2) 1 || ltb (2 * max_breakpoints) words) 29 0

-- "A bad breakpoint refuses the whole list by 12 or 13": breakpoint k, and of all of them "the earliest in the list deciding"
unfoldable pub listed_refusal : Workers → List ℕ → ℕ → ℕ
listed_refusal log list k = event_in_refusal log (listed_worker list k) (listed_event list k)

unfoldable pub earliest_refusal : Workers → List ℕ → ℕ
earliest_refusal log list = first_of (listed_refusal log list) (breakpoint_count list)

-- the log's, then 29, "tested before 12", then 12 or 13: of a call for a list of breakpoints
unfoldable pub list_refusal : Given → List ℕ → ℕ
list_refusal log list = or_else log.refusal (or_else (length_refusal (length list)) (earliest_refusal log.workers list))
