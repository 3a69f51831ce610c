-- `restore::plan_refusal` meets its contract: `or_else` gives the number of the search where that is not 0, and the table's, which is 27 or
-- 0, where it is. Assumes nothing.
use Rattle.restore_plan.specs.Calls.{plan_refusal}
use Rattle.restore.proofs.plan_refusal.Goals as goal

pub returns : goal.returns
unfolding plan_refusal
returns c = record { answer = rw (← c.search_refusal-search.ensures.answer, ← c.table_refusal-loading.ensures.answer) c.or_else.ensures.answer }
