-- `starts::plan_into` meets its contract: `begin` and `settle` leave the cut in the first word of each worker (`rolling_cut`), and
-- the starts of `settle` with the identifiers of `finish` are the plan of that cut (`finished_plan`). Assumes nothing.
use mathlib.Core.Path.{◌∙◌}
use Rattle.starts.proofs.Settling.{rolling_cut}
use Rattle.starts.proofs.Finished.{finished_plan}
use Rattle.starts.proofs.plan_into.Goals as goal

pub settle-requires : goal.settle-requires
settle-requires c =
    let begun = c.begin.ensures.begun in
    let given = c.requires in
    let same = rolling_cut _ _ _ _ given.3 begun in
    (given.0, rw same given.3, rw same begun)

pub returns : goal.returns
returns c =
    let same = rolling_cut _ _ _ _ c.requires.3 c.begin.ensures.begun in record { words = c.finish.ensures.words ∙ finished_plan _ _ _ (rw same at c.settle.ensures.settled) }
