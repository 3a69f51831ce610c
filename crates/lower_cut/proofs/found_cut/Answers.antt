-- `lower_cut::found_cut` meets its contract: `cut_into` leaves the lower cut, which has one word for each worker (`lower_is`), so the
-- workers word of these words is that of all n workers. Assumes nothing.
use Rattle.accept.proofs.Accepted.{well_formed}
use Rattle.lower_cut.specs.Calls.{found_cut}
use Rattle.lower_cut.proofs.LowerCut.{lower_is}
use Rattle.lower_cut.proofs.found_cut.Goals as goal

pub workers_word-requires : goal.workers_word-requires
workers_word-requires c =
    let pre = c.requires in
    let ok = well_formed _ pre.0 in
    rw (c.cut_into-visits.ensures.cut, (lower_is _ ok _ _ pre.3).consistent.is_cut.long) ok.few

pub returns-clause-answer : goal.returns-clause-answer
unfolding found_cut
returns-clause-answer c =
    let pre = c.requires in
    let found = c.cut_into-visits.ensures in
    rw (c.workers_word.ensures.answer, found.cut, found.answer, (lower_is _ (well_formed _ pre.0) _ _ pre.3).consistent.is_cut.long)
