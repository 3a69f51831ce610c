-- `planner::plan` meets its contract: the number is that of `restore::plan`, with 14 for the totals; where it is 0 four words are there for
-- these (`plan_ok`), else no word changes; the built-in table is never refused by 27 (`as_before`). Assumes nothing.
use mathlib.Core.Path.{refl, sym, ◌∙◌}
use Rattle.lent.proofs.Lent.{words_ok, put_found, untouched}
use Rattle.lent.proofs.Left.{leaves_both_by}
use Rattle.restore_plan.proofs.PlanTable.{plan_ok, as_before}
use Rattle.restore_plan.specs.Calls.{plan_answer, plan_totals}
use Rattle.planner.proofs.plan.Goals as goal

pub returns-then-refusal-ne0 : goal.returns-then-refusal-ne0
returns-then-refusal-ne0 c =
    let called = c.plan-found.ensures in
    let no = c.if-refusal-ne0.true in
    let answer = rw c.words_refusal-others.ensures.answer at called.refused in
    record {
      left = leaves_both_by _ _ _ _ answer called.words (untouched _ _ _ no);
      kept = called.kept;
      floor = (λ none. absurd (no none));
      shown = (λ none. absurd (no none));
      before = λ same. as_before _ _ _ _ _ _ _ _ _ _ answer (untouched _ _ _ no) same;
    }

pub write_plan-requires : goal.write_plan-requires
write_plan-requires c =
    let lent = (plan_ok c.plan-found.ensures.refused c.if-refusal-ne0.false).search in
    words_ok _ _ (sym c.words_refusal-others.ensures.answer ∙ lent.line.rest)

pub returns : goal.returns
unfolding plan_answer plan_totals
returns c =
    let called = c.plan-found.ensures in
    let none = c.if-refusal-ne0.false in
    let found = rw (none) at called.answer in
    let words = rw (none) at called.words in
    let answer = sym none ∙ (rw c.words_refusal-others.ensures.answer at called.refused) in
    let totals = put_found plan_totals _ _ _ _ found c.write_plan.ensures.totals in
    record {
      left = leaves_both_by _ _ _ _ answer words totals;
      kept = (λ no. absurd (no refl));
      floor = (λ _. called.floor none);
      shown = (λ _. called.shown none);
      before = λ same. as_before _ _ _ _ _ _ _ _ _ _ answer totals same;
    }
