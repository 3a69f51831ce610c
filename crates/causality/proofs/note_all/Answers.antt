-- `causality::note_all` meets its contract: before turn k the words are what events from + 1 .. k name of each worker, which is 0 for no
-- events (`row_none`) and is kept by one event more (`row_more`). Assumes nothing.
use mathlib.Core.Path.{◌∙◌}
use Rattle.causality.proofs.Row.{row_none, row_more}
use Rattle.causality.proofs.note_all.Goals as goal

pub loop-k-init : goal.loop-k-init
loop-k-init c = c.requires.1 ∙ row_none _ _ _

pub loop-k-preserved : goal.loop-k-preserved
loop-k-preserved c = c.note.ensures.words ∙ rw c.loop-k.invariant (row_more _ _ _ _ c.loop-k.auto.k)
