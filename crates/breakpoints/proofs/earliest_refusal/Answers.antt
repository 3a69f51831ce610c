-- `breakpoints::earliest_refusal` meets its contract: while no breakpoint before k has a number, none of them decides (`first_of_more`), and
-- the first that has one does (`earliest_decides`). Assumes nothing.
use mathlib.Core.Path.{sym, ◌∙◌}
use native.Mathlib.Nat.{le_antisymm}
use Rattle.lent.proofs.FirstOf.{first_of_none, first_of_more, first_of_zero}
use Rattle.breakpoints.specs.Breakpoints.{listed_refusal, earliest_refusal}
use Rattle.breakpoints.proofs.Allowed.{earliest_decides, listed_within, listed_by}
use Rattle.breakpoints.proofs.earliest_refusal.Goals as goal

pub loop-k-init : goal.loop-k-init
loop-k-init c = first_of_none _

pub worker_of-requires : goal.worker_of-requires
worker_of-requires c = listed_within _ _ (rw c.count-all.ensures.answer at c.loop-k-test.true)

pub event_of-requires : goal.event_of-requires
event_of-requires c = listed_within _ _ (rw c.count-all.ensures.answer at c.loop-k-test.true)

pub returns-then-refusal-ne0 : goal.returns-then-refusal-ne0
returns-then-refusal-ne0 c =
    let number = listed_by _ _ c.loop-k.k c.worker_of.ensures.answer c.event_of.ensures.answer c.event_in_refusal-refusal.ensures.answer in
    let decides =
    earliest_decides _ _ _ (rw c.count-all.ensures.answer at c.loop-k-test.true) (first_of_zero _ _ c.loop-k.invariant)
    (λ e. c.if-refusal-ne0.true (number ∙ e)) in
    record { answer = number ∙ sym decides }

pub loop-k-preserved : goal.loop-k-preserved
loop-k-preserved c =
    let number = listed_by _ _ c.loop-k.k c.worker_of.ensures.answer c.event_of.ensures.answer c.event_in_refusal-refusal.ensures.answer in
    first_of_more (listed_refusal _ _) _ c.loop-k.invariant (sym number ∙ c.if-refusal-ne0.false)

pub returns : goal.returns
unfolding earliest_refusal
returns c =
    let all = le_antisymm c.loop-k.auto.k-end c.loop-k-test.false in
    record { answer = sym (rw (all, c.count-all.ensures.answer) at c.loop-k.invariant) }
