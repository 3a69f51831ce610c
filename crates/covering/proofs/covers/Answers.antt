-- `covering::covers` meets its contract: the number is that of `accept`, or else `others`, and where it is not 0 the answer is no; at 0 the
-- log is well formed, and `covers_said` and `none_said` give both claims from `is_covering`. Assumes nothing.
use mathlib.Core.Path.{sym, ◌∙◌}
use borrow.Author.Tests.{ne_eqb}
use Rattle.lent.proofs.Lent.{or_else_zero}
use Rattle.accept.proofs.Accepted.{well_formed}
use Rattle.covering.proofs.CoveringSet.{covers_said}
use Rattle.covering.proofs.Withdrawn.{none_said}
use Rattle.causality.specs.Calls.{yes_unless}
use Rattle.covering.proofs.covers.Goals as goal

pub returns-then-refusal-ne0 : goal.returns-then-refusal-ne0
unfolding yes_unless
returns-then-refusal-ne0 c =
    let no = c.if-refusal-ne0.true in record {
      refused = rw (← c.accept.ensures.answer) c.or_else-refusal.ensures.answer;
      answer = rw (ne_eqb _ _ no);
      exactly = (λ none. absurd (no none));
      withdrawn = λ none. absurd (no none);
    }

pub is_covering-requires : goal.is_covering-requires
is_covering-requires c = sym c.accept.ensures.answer ∙ (or_else_zero _ _ (sym c.or_else-refusal.ensures.answer ∙ c.if-refusal-ne0.false)).0

pub returns : goal.returns
unfolding yes_unless
returns c =
    let found = rw c.accept.ensures.answer at c.or_else-refusal.ensures.answer in
    let ok = well_formed _ (or_else_zero _ _ (sym found ∙ c.if-refusal-ne0.false)).0 in record {
      refused = sym c.if-refusal-ne0.false ∙ found;
      answer = c.is_covering.ensures.answer;
      exactly = (λ _. covers_said _ _ ok c.is_covering.ensures.answer);
      withdrawn = λ _. none_said _ _ ok c.is_covering.ensures.answer;
    }
