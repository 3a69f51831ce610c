-- `planner::stepping::replay_words` meets its contract: `write_starts` makes the positions the starts of the plan words, so what
-- `step_each` leaves is the machine's run from these. Assumes nothing.
use mathlib.Core.Path.{◌∙◌}
use Rattle.cost.specs.Words.{starts_in}
use Rattle.planner.proofs.stepping.replay_words.Goals as goal

pub step_each-requires : goal.step_each-requires
unfolding starts_in
step_each-requires c =
    let given = c.requires in
    let begun = c.write_starts in
    (given.0, rw (rw given.2 at begun.ensures.positions) given.1, begun.auto.positions ∙ given.2, given.3)

pub returns : goal.returns
unfolding starts_in
returns c =
    let begun = rw c.requires.2 at c.write_starts.ensures.positions in
    let stepped = c.step_each.ensures in record { steps = rw (begun) at stepped.steps; positions = rw (begun) at stepped.positions }
