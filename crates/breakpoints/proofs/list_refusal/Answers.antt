-- `breakpoints::list_refusal` meets its contract: the log's number is returned where it is not 0; where it is 0 the log can be read, and 29 is
-- given first (`length_first`), then what the breakpoints give (`listed_then`). Assumes nothing.
use mathlib.Core.Path.{sym, ◌∙◌}
use borrow.Author.Tests.{ne_eqb}
use Rattle.lent.specs.Lent.{or_else}
use Rattle.accept.proofs.Accepted.{accepted_layout}
use Rattle.breakpoints.specs.Breakpoints.{list_refusal}
use Rattle.breakpoints.proofs.Allowed.{length_first, listed_then}
use Rattle.breakpoints.proofs.list_refusal.Goals as goal

pub returns-then-refusal-ne0 : goal.returns-then-refusal-ne0
unfolding list_refusal or_else
returns-then-refusal-ne0 c = record { answer = rw (← c.accept-refusal.ensures.answer, ne_eqb _ _ c.if-refusal-ne0.true) }

pub returns-then-length-ne0 : goal.returns-then-length-ne0
returns-then-length-ne0 c =
    let tested = c.length_refusal-length.ensures.answer in
    let accepted = sym c.accept-refusal.ensures.answer ∙ c.if-refusal-ne0.false in
    record { answer = tested ∙ sym (length_first _ _ accepted (λ e. c.if-length-ne0.true (tested ∙ e))) }

pub earliest_refusal-requires : goal.earliest_refusal-requires
earliest_refusal-requires c = accepted_layout _ (sym c.accept-refusal.ensures.answer ∙ c.if-refusal-ne0.false)

pub returns : goal.returns
returns c =
    let tested = c.length_refusal-length.ensures.answer in
    let accepted = sym c.accept-refusal.ensures.answer ∙ c.if-refusal-ne0.false in
    record { answer = c.earliest_refusal.ensures.answer ∙ sym (listed_then _ _ accepted (sym tested ∙ c.if-length-ne0.false)) }
