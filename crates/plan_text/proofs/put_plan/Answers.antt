-- `plan_text::put_plan` meets its contract: the words lent suffice for every log, so only the log's numbers, 12 and 13 refuse the plan
-- (`plan_number`); a refused one gives the text of its number, any other that of plan and upper line. Assumes nothing.
use mathlib.Core.Path.{refl, sym, ◌∙◌, ap}
use Prim.Native.Nat.{ℕ, ◌*◌}
use Rattle.lent.proofs.Left.{slice_of}
use Rattle.accept.proofs.Accepted.{accepted_layout}
use Rattle.refusals.proofs.Allowed.{breakpoint_ok}
use Rattle.restore_plan.proofs.Written.{plan_long}
use Rattle.plan_text.proofs.Enough.{take_new, all_new, upper_long, totals_long, plan_number, line_number, refused_text_lem, accepted_text}
use Rattle.plan_text.proofs.put_plan.Goals as goal

pub returns-then-refusal-ne0 : goal.returns-then-refusal-ne0
returns-then-refusal-ne0 c = record {
  text = rw (refused_text_lem _ _ _ _ (c.built_in_plan-refusal.ensures.answer ∙ plan_number _ _ _) c.if-refusal-ne0.true) c.put_refused.ensures.text;
}

pub worker_count-n-requires : goal.worker_count-n-requires
worker_count-n-requires c =
    accepted_layout _ (breakpoint_ok refl (sym (plan_number _ _ _) ∙ sym c.built_in_plan-refusal.ensures.answer ∙ c.if-refusal-ne0.false)).accepted

pub put_found-requires : goal.put_found-requires
put_found-requires c =
    let planned = c.built_in_plan-refusal.ensures in
    let none = c.if-refusal-ne0.false in
    let accepted = sym (plan_number _ _ _) ∙ sym planned.answer ∙ none in
    let n = c.worker_count-n.ensures.answer in (
      accepted,
      rw planned.words (take_new _ _ _ _ none (plan_long _ _ ∙ ap (λ (k : ℕ). 3 * k) (sym n))),
      rw (slice_of 0 c.upper_line.ensures.left) (take_new _ _ _ _ (line_number _ _ _ 1 accepted) (upper_long _ _ _ ∙ sym n)),
      rw planned.totals (all_new _ _ _ none (totals_long _)),
    )

pub returns : goal.returns
returns c =
    let accepted = sym (plan_number _ _ _) ∙ sym c.built_in_plan-refusal.ensures.answer ∙ c.if-refusal-ne0.false in
    record { text = rw (accepted_text _ _ _ accepted) c.put_found.ensures.text }
