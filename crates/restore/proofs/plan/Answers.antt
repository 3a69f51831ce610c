-- `restore::plan` meets its contract: the number is `plan_refusal`'s; where it is 0 (`plan_ok`) the first 3 × n words are the plan's, from
-- which floor and identifiers follow (`floor_left`, `shown_left`), else no word changes. Assumes nothing.
use mathlib.Core.Path.{refl, sym, ◌∙◌}
use Prim.Native.Nat.{◌*◌}
use native.Mathlib.Omega.{arith}
use borrow.Author.Tests.{ne_eqb}
use lib.ListN.{length-take}
use lib.Seq.{length-take-le}
use Rattle.accept.proofs.Accepted.{accepted_layout, well_formed}
use Rattle.lent.proofs.Lent.{written, untouched}
use Rattle.restore_plan.specs.Calls.{found_plan, plan_answer}
use Rattle.restore_plan.proofs.Written.{plan_long}
use Rattle.restore_plan.proofs.Floor.{floor_left}
use Rattle.restore_plan.proofs.Shown.{shown_left}
use Rattle.restore_plan.proofs.PlanTable.{plan_ok}
use Rattle.restore.proofs.plan.Goals as goal

pub returns-then-refusal-ne0-clause-answer : goal.returns-then-refusal-ne0-clause-answer
unfolding plan_answer
returns-then-refusal-ne0-clause-answer c = rw (ne_eqb _ _ c.if-refusal-ne0.true)

pub returns-then-refusal-ne0-clause-words : goal.returns-then-refusal-ne0-clause-words
returns-then-refusal-ne0-clause-words c = untouched _ _ _ c.if-refusal-ne0.true

pub worker_count-n-requires : goal.worker_count-n-requires
worker_count-n-requires c = accepted_layout _ (plan_ok c.plan_refusal-refusal.ensures.answer c.if-refusal-ne0.false).search.line.breakpoint.accepted

pub slice_bounds-plan_found-end : goal.slice_bounds-plan_found-end
slice_bounds-plan_found-end c =
    let lent = (plan_ok c.plan_refusal-refusal.ensures.answer c.if-refusal-ne0.false).search in
    omega (arith, lent.line.enough, c.worker_count-n.ensures.answer)

pub slice_bounds-plan_found-end-2 : goal.slice_bounds-plan_found-end-2
slice_bounds-plan_found-end-2 c =
    let lent = (plan_ok c.plan_refusal-refusal.ensures.answer c.if-refusal-ne0.false).search in
    sym (length-take-le _ _ (omega (arith, lent.line.enough, c.worker_count-n.ensures.answer)))

pub plan_found-requires : goal.plan_found-requires
plan_found-requires c =
    let passed = plan_ok c.plan_refusal-refusal.ensures.answer c.if-refusal-ne0.false in
    let lent = passed.search in
    let count = c.worker_count-n.ensures.answer in
    let point = lent.line.breakpoint in (
      point.accepted,
      simp length-take (omega (arith, lent.line.enough, count)),
      lent.room,
      point.within,
      point.event,
      passed.loaded,
    )

pub returns-clause-refused : goal.returns-clause-refused
unfolding found_plan
returns-clause-refused c = rw c.plan_found.ensures.answer (sym c.if-refusal-ne0.false ∙ c.plan_refusal-refusal.ensures.answer)

pub returns-clause-answer : goal.returns-clause-answer
unfolding plan_answer found_plan
returns-clause-answer c = rw c.plan_found.ensures.answer

pub returns-clause-words : goal.returns-clause-words
unfolding found_plan
returns-clause-words c =
    rw (c.plan_found.ensures.answer, c.plan_found.ensures.words, c.worker_count-n.ensures.answer) (written _ _ _ _ refl (plan_long _ _))

pub returns-clause-kept : goal.returns-clause-kept
unfolding found_plan
returns-clause-kept c = rw c.plan_found.ensures.answer (λ no. absurd (no refl))

pub returns-clause-floor : goal.returns-clause-floor
returns-clause-floor c _ =
    let point = (plan_ok c.plan_refusal-refusal.ensures.answer c.if-refusal-ne0.false).search.line.breakpoint in
    floor_left _ (well_formed _ point.accepted) _ _ point.event (3 * c.worker_count-n.result) _ c.args.words.now c.plan_found.ensures.words

pub returns-clause-shown : goal.returns-clause-shown
returns-clause-shown c _ = shown_left _ (3 * c.worker_count-n.result) _ _ c.args.words.now c.plan_found.ensures.words
