-- `lower_cut::lower_cut` meets its contract: the number is `search_refusal`'s; where it is 0 (`search_ok`) `found_cut` writes the lower cut
-- to the first n words, else words and scratch do not change (`untouched`). Assumes nothing.
use mathlib.Core.Path.{refl, sym, ◌∙◌}
use Rattle.std.proofs.Common.{arith}
use Rattle.std.proofs.lemmas.Bool.Decides.{nat_tests}
use lib.Seq.{length-take-le}
use Rattle.lent.proofs.Lent.{written, untouched}
use Rattle.accept.proofs.Accepted.{accepted_layout, well_formed}
use Rattle.lower_cut.specs.Calls.{found_cut, cut_answer}
use Rattle.refusals.proofs.Allowed.{search_ok}
use Rattle.lower_cut.proofs.LowerCut.{lower_is}
use Rattle.lower_cut.proofs.lower_cut.Goals as goal

pub returns-then-refusal-ne0-clause-answer : goal.returns-then-refusal-ne0-clause-answer
unfolding cut_answer
returns-then-refusal-ne0-clause-answer c = grind (arith, nat_tests)

pub returns-then-refusal-ne0-clause-words : goal.returns-then-refusal-ne0-clause-words
returns-then-refusal-ne0-clause-words c = untouched _ _ _ c.if-refusal-ne0.true

pub worker_count-n-requires : goal.worker_count-n-requires
worker_count-n-requires c = accepted_layout _ (search_ok c.search_refusal-refusal.ensures.answer c.if-refusal-ne0.false).line.breakpoint.accepted

pub slice_bounds-found_cut-end : goal.slice_bounds-found_cut-end
slice_bounds-found_cut-end c =
    let lent = search_ok c.search_refusal-refusal.ensures.answer c.if-refusal-ne0.false in
    omega (arith, lent.line.enough, c.worker_count-n.ensures.answer)

pub slice_bounds-found_cut-end-2 : goal.slice_bounds-found_cut-end-2
slice_bounds-found_cut-end-2 c =
    let lent = search_ok c.search_refusal-refusal.ensures.answer c.if-refusal-ne0.false in
    sym (length-take-le _ _ (omega (arith, lent.line.enough, c.worker_count-n.ensures.answer)))

pub found_cut-requires : goal.found_cut-requires
found_cut-requires c =
    let size = c.worker_count-n.ensures.answer in
    let lent = search_ok c.search_refusal-refusal.ensures.answer c.if-refusal-ne0.false in
    let point = lent.line.breakpoint in
    (point.accepted, length-take-le _ _ (omega (arith, lent.line.enough)) ∙ size, point.within, point.event, lent.room)

pub returns : goal.returns
unfolding cut_answer found_cut
returns c =
    let found = c.search_refusal-refusal.ensures.answer in
    let none = c.if-refusal-ne0.false in
    let point = (search_ok found none).line.breakpoint in
    let long = (lower_is _ (well_formed _ point.accepted) _ _ point.event).consistent.is_cut.long in
    rw c.found_cut.ensures.answer (
    record {
      refused = sym none ∙ found;
      answer = refl;
      words = rw (c.found_cut.ensures.cut, c.worker_count-n.ensures.answer) (written _ _ _ _ refl long);
      kept = λ no. absurd (no refl);
    })
