-- `lower_cut::write_cut` meets its contract: the two stores put the visits and the workers word in the first two words, in this order, and
-- leave the others (`stored_words`). Assumes nothing.
use Rattle.lent.proofs.Lent.{store_each, stored_words}
use Rattle.lower_cut.specs.Calls.{cut_totals}
use Rattle.lower_cut.proofs.write_cut.Goals as goal

pub returns : goal.returns
unfolding cut_totals store_each
returns c = record { totals = stored_words _ _ c.requires }
