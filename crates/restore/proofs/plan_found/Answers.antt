-- `restore::plan_found` meets its contract: the cut and starts are read back from the plan words (`plan_cuts`, `plan_starts_in`), so the
-- events and units counted are those of the plan. Assumes nothing.
use mathlib.Core.Path.{refl}
use Rattle.accept.proofs.Accepted.{well_formed}
use Rattle.restore_plan.specs.Calls.{found_plan}
use Rattle.restore_plan.proofs.Written.{plan_cuts, plan_starts_in, lower_is_cut, lower_held}
use Rattle.restore.proofs.plan_found.Goals as goal

pub events_of-requires : goal.events_of-requires
events_of-requires c =
    let given = c.requires in
    lower_held _ _ _ given.0 given.4 _ _ c.plan_words-cut.ensures.words refl

pub units_of-requires : goal.units_of-requires
units_of-requires c =
    let given = c.requires in
    (lower_held _ _ _ given.0 given.4 _ _ c.plan_words-cut.ensures.words refl, given.5)

pub returns-clause-answer : goal.returns-clause-answer
unfolding found_plan
returns-clause-answer c =
    let words = c.plan_words-cut.ensures in
    let is_cut = lower_is_cut _ _ _ c.requires.0 c.requires.4 in
    let starts = plan_starts_in _ _ (well_formed _ c.requires.0) is_cut in
    rw (words.answer, c.events_of.ensures.answer, c.units_of.ensures.answer, words.words, plan_cuts _ _ is_cut, starts)
