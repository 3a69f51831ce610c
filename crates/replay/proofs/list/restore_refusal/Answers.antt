-- `replay::list::restore_refusal` meets its contract: a log that is refused gives its number, as it does in `plan_refusal`
-- (`plan_refused_log`); for an accepted one `plan_refusal` gives the number, with that of `others_refusal` as `others`. Assumes nothing.
use Rattle.std.proofs.Common.{arith}
use Rattle.std.proofs.lemmas.Grind.{common_steps}
use mathlib.Core.Path.{sym, ◌∙◌}
use Rattle.restore_plan.proofs.PlanTable.{plan_refused_log}
use Rattle.replay_machine.specs.Calls.{restore_refusal}
use Rattle.replay.proofs.list.restore_refusal.Goals as goal

pub returns-then-refusal-ne0 : goal.returns-then-refusal-ne0
unfolding restore_refusal
returns-then-refusal-ne0 c =
    let is = c.accept-refusal.ensures.answer in record { answer = is ∙ sym (plan_refused_log _ _ _ _ _ _ _ (λ e. c.if-refusal-ne0.true (is ∙ e))) }

pub returns : goal.returns
unfolding restore_refusal
returns c = grind (arith, common_steps)
