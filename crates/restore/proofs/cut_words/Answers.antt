-- `restore::cut_words` meets its contract: `found_cut` leaves the lower cut in the first n words, and `spread` moves each of them to the
-- first plan word of its worker. Assumes nothing.
use mathlib.Core.Path.{sym, ◌∙◌}
use lib.Seq.{take_at}
use Rattle.accept.proofs.Accepted.{accepted_layout}
use Rattle.cost.specs.Words.{cuts_in}
use Rattle.restore_plan.proofs.Written.{lower_is_cut}
use Rattle.restore.proofs.cut_words.Goals as goal

pub worker_count-n-requires : goal.worker_count-n-requires
worker_count-n-requires c = accepted_layout _ c.requires.0

pub returns-clause-words : goal.returns-clause-words
unfolding cuts_in
returns-clause-words c =
    let found = rw c.found_cut-found.ensures.cut at c.spread.ensures.words in
    let long = (lower_is_cut _ _ _ c.requires.0 c.requires.4).long ∙ sym c.worker_count-n.ensures.answer in
    rw (← c.worker_count-n.ensures.answer) (found ∙ take_at _ _ _ long)
