-- `plan_text::built_in_plan` meets its contract: the table that `plan` is given is the built-in one, for which the call promises the number
-- without 27 and the totals by that table (`AsBefore`). Assumes nothing.
use mathlib.Core.Path.{◌∙◌}
use native.Mathlib.Omega.{arith}
use Rattle.lent.proofs.Lent.{words_enough}
use Rattle.lent.proofs.Left.{answer_of_lem, slice_of}
use Rattle.unit_table.specs.Table.{table_words, built_in_words}
use Rattle.unit_table.proofs.Loaded.{loaded_long}
use Rattle.unit_table.proofs.BuiltIn.{built_in_loads}
use Rattle.plan_text.proofs.Enough.{all_new}
use Rattle.plan_text.proofs.built_in_plan.Goals as goal

pub returns : goal.returns
returns c =
    let planned = c.plan.ensures in
    let none = words_enough table_words table_words (omega arith) in
    let before = planned.before (slice_of 0 c.built_in_table.ensures.left ∙ all_new _ built_in_words _ none (loaded_long built_in_words built_in_loads)) in
    record { answer = before.refused; words = rw (answer_of_lem planned.left) (slice_of 0 planned.left); totals = before.counted }
