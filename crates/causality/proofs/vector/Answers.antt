-- `causality::vector` meets its contract: the number is `line_refusal`'s; where it is 0 (`line_ok`) the event is one of the log's and the
-- vector is written to the first n words, else no word changes (`untouched`). Assumes nothing.
use mathlib.Core.Path.{refl, sym, ◌∙◌}
use lib.Seq.{length-take-le}
use native.Mathlib.Omega.{arith}
use Rattle.accept.proofs.Accepted.{accepted_layout}
use Rattle.lent.proofs.Lent.{written, untouched}
use Rattle.lent.proofs.Left.{leaves_by}
use Rattle.causality.proofs.Row.{vector_length}
use Rattle.refusals.proofs.Allowed.{line_ok}
use Rattle.causality.proofs.vector.Goals as goal

pub returns-then-refusal-ne0 : goal.returns-then-refusal-ne0
returns-then-refusal-ne0 c = record { left = leaves_by _ _ c.line_refusal-refusal.ensures.answer (untouched _ _ _ c.if-refusal-ne0.true) }

pub worker_count-n-requires : goal.worker_count-n-requires
worker_count-n-requires c = accepted_layout _ (line_ok c.line_refusal-refusal.ensures.answer c.if-refusal-ne0.false).breakpoint.accepted

pub slice_bounds-vector_into-end : goal.slice_bounds-vector_into-end
slice_bounds-vector_into-end c =
    let lent = line_ok c.line_refusal-refusal.ensures.answer c.if-refusal-ne0.false in
    omega (arith, lent.enough, c.worker_count-n.ensures.answer)

pub slice_bounds-vector_into-end-2 : goal.slice_bounds-vector_into-end-2
slice_bounds-vector_into-end-2 c =
    let lent = line_ok c.line_refusal-refusal.ensures.answer c.if-refusal-ne0.false in
    sym (length-take-le _ _ (omega (arith, lent.enough, c.worker_count-n.ensures.answer)))

pub vector_into-requires : goal.vector_into-requires
vector_into-requires c =
    let size = c.worker_count-n.ensures.answer in
    let lent = line_ok c.line_refusal-refusal.ensures.answer c.if-refusal-ne0.false in
    let point = lent.breakpoint in
    (point.accepted, length-take-le _ _ (omega (arith, lent.enough)) ∙ size, point.within, point.event.1)

pub returns : goal.returns
returns c =
    let found = c.line_refusal-refusal.ensures.answer in
    let none = c.if-refusal-ne0.false in record {
      left = leaves_by _ _ (sym none ∙ found)
          (rw (c.vector_into.ensures.words, c.worker_count-n.ensures.answer) (written _ _ _ _ refl (vector_length _ _ _)));
    }
