-- `sheet::add_list` meets its contract: after k turns the sheet is that of the first k breakpoints. Assumes nothing.
use mathlib.Core.Path.{◌∙◌}
use native.Mathlib.Nat.{le_antisymm}
use Rattle.sheet.specs.Sheet.{sheet_words}
use Rattle.sheet.proofs.Sums.{sheet_none}
use Rattle.sheet.proofs.add_list.Goals as goal

pub loop-k-init : goal.loop-k-init
loop-k-init c = c.requires.3 ∙ sheet_none _ _ _

pub returns : goal.returns
unfolding sheet_words
returns c =
    let all = le_antisymm c.loop-k.auto.k-end c.loop-k-test.false ∙ c.count-all.ensures.answer in
    record { sheet = rw all at c.loop-k.invariant }
