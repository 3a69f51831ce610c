-- `restore::write_plan` meets its contract: the four stores put visits, events, units and workers word in the first four words, in this
-- order, and leave the others (`stored_words`). Assumes nothing.
use Rattle.lent.proofs.Lent.{store_each, stored_words}
use Rattle.restore_plan.specs.Calls.{plan_totals}
use Rattle.restore.proofs.write_plan.Goals as goal

pub returns : goal.returns
unfolding plan_totals store_each
returns c = record { totals = stored_words _ _ c.requires }
