-- `covering::some_without_set` meets its contract: after w turns each of the first w workers has a checkpoint that may be chosen and has
-- the identifier, the first w words are their indices, and the others are as lent. Assumes nothing.
use Rattle.std.proofs.Common.{sym, ◌∙◌, ◌<◌, None, Some, length, rules, arith}
use native.Mathlib.Nat.{le_antisymm}
use Rattle.ranges.proofs.Any.{any_none, any_more, any_found}
use Rattle.ranges.proofs.FoundOrNone.{found_or_none}
use Rattle.ranges.proofs.Tabulate.{store_none, store_more}
use Rattle.event_log.specs.Layout.{workers_of}
use Rattle.accept.proofs.Accepted.{accepted_layout, well_formed}
use Rattle.covering.specs.Covering.{is_set, set_starts}
use Rattle.covering.proofs.CoveringSet.{set_index_lem}
use Rattle.covering.proofs.SetNumber.{set_without, set_with}
use Rattle.covering.proofs.some_without_set.Goals as goal

pub worker_count-n-requires : goal.worker_count-n-requires
worker_count-n-requires c = accepted_layout _ c.requires.0

pub loop-w-init : goal.loop-w-init
loop-w-init c = (any_none _, sym (store_none _ _))

pub checkpoint_count-end-requires : goal.checkpoint_count-end-requires
checkpoint_count-end-requires c = accepted_layout _ c.requires.0

pub checkpoint_at-requires : goal.checkpoint_at-requires
checkpoint_at-requires c = accepted_layout _ c.requires.0

-- the worker of this turn is without the identifier
pub returns-in_default-clause-answer : goal.returns-in_default-clause-answer
returns-in_default-clause-answer c =
    let mine = is_set (workers_of c.args.log.now) c.args.identifier c.loop-w.w-counter in
    let here = rw c.worker_count-n.ensures.answer at c.loop-w-test.true in
    sym (any_found _ _ c.loop-w.w-counter here (set_without _ _ _ (rw c.checkpoint_count-end.ensures.answer)
    (λ k h. found_or_none mine _ _ _ None c.in_default.ensures.ran (λ x b q k. search rules) k (omega arith) h)))

pub loop-w-preserved : goal.loop-w-preserved
loop-w-preserved c =
    let mine = is_set (workers_of c.args.log.now) c.args.identifier c.loop-w.w-counter in
    let one = found_or_none mine _ _ _ (Some c.in-Some.c) c.in-Some.ensures.ran (λ x b q k. search rules) in
    let index = set_index_lem _ _ (well_formed _ c.requires.0) _ _ one.2 in
    let short : c.loop-w.w-counter < length c.args.indices.now = omega (arith, c.worker_count-n.ensures.answer, c.loop-w-test.true) in (
      any_more _ _ c.loop-w.invariant.0 (set_with _ _ _ (rw c.checkpoint_count-end.ensures.answer) _ one.1 one.2),
      rw (c.loop-w.invariant.1, c.checkpoint_at.ensures.answer, ← index) (store_more _ c.args.indices.now _ short),
    )

pub returns-clause-indices : goal.returns-clause-indices
unfolding set_starts
returns-clause-indices c _ =
    let all = le_antisymm c.loop-w.auto.w-counter-end c.loop-w-test.false ∙ c.worker_count-n.ensures.answer in rw all at c.loop-w.invariant.1
