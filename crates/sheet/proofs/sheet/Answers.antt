-- `sheet::sheet` meets its contract: the number is `sheet_refusal`'s; where it is 0 (`sheet_ok`) the first 3 × n words are the sums, of which
-- all that the request says holds (`summed_left`), else no word changes. Assumes nothing.
use mathlib.Core.Path.{refl, sym, ◌∙◌}
use native.Mathlib.Omega.{arith}
use Rattle.lent.proofs.Lent.{put, untouched}
use Rattle.lent.proofs.Left.{leaves_by}
use Rattle.accept.proofs.Accepted.{well_formed}
use Rattle.sheet.proofs.Allowed.{sheet_ok}
use Rattle.sheet.proofs.Summed.{summed_left}
use Rattle.sheet.proofs.sheet.Goals as goal

pub returns-then-refusal-ne0-clause-left : goal.returns-then-refusal-ne0-clause-left
returns-then-refusal-ne0-clause-left c = leaves_by _ _ c.sheet_refusal-refusal.ensures.answer (untouched _ _ _ c.if-refusal-ne0.true)

pub sum_list-requires : goal.sum_list-requires
sum_list-requires c =
    let lent = sheet_ok c.sheet_refusal-refusal.ensures.answer c.if-refusal-ne0.false in
    let few = (well_formed _ lent.summable.accepted).few in
    (lent.summable, omega (arith, few), omega (arith, lent.room), lent.enough)

pub returns-clause-left : goal.returns-clause-left
returns-clause-left c =
    leaves_by _ _ (sym c.if-refusal-ne0.false ∙ c.sheet_refusal-refusal.ensures.answer) (c.sum_list.ensures.sheet ∙ put 0 _ _ refl)

pub returns-clause-summed : goal.returns-clause-summed
returns-clause-summed c _ =
    let lent = sheet_ok c.sheet_refusal-refusal.ensures.answer c.if-refusal-ne0.false in
    summed_left _ _ _ lent.summable _ _ c.sum_list.ensures.sheet
