-- `accept::accept` meets its contract: the content is tested where the layout gives 0, so the number is the first that is not 0; `once` and
-- `twice` tell what 0 and 24 mean for the receives of a form 2 log. Assumes nothing.
use mathlib.Core.Path.{sym, ◌∙◌}
use borrow.Author.Tests.{eq-eqb, ne_eqb}
use Rattle.lent.specs.Lent.{or_else}
use Rattle.accept.specs.Refusal.{log_refusal}
use Rattle.accept.proofs.Once.{told}
use Rattle.accept.proofs.accept.Goals as goal

pub returns-then-refusal-ne0 : goal.returns-then-refusal-ne0
unfolding log_refusal or_else
returns-then-refusal-ne0 c =
    let said = told _ _ (rw (← c.layout_refusal-refusal.ensures.answer, ne_eqb _ _ c.if-refusal-ne0.true)) in record { answer = said.0; once = said.1.0; twice = said.1.1 }

pub content_refusal-requires : goal.content_refusal-requires
content_refusal-requires c = sym c.layout_refusal-refusal.ensures.answer ∙ c.if-refusal-ne0.false

pub returns : goal.returns
unfolding log_refusal or_else
returns c =
    let said = told _ _ (rw (← c.layout_refusal-refusal.ensures.answer, eq-eqb _ _ c.if-refusal-ne0.false) c.content_refusal.ensures.answer) in record { answer = said.0; once = said.1.0; twice = said.1.1 }
