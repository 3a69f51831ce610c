-- `causality::some_lacks` meets its contract: `any` asks each worker in turn (`any_in_range`). Assumes nothing.
use Rattle.std.proofs.Common.{rules, refl}
use Rattle.std.proofs.lemmas.Iterator.{YieldsList-from_range, serves_from_Range}
use Rattle.ranges.proofs.Chains.{any_in_range}
use Rattle.refusals.proofs.Allowed.{under}
use Rattle.causality.proofs.some_lacks.Goals as goal

pub any-requires-clause-callable : goal.any-requires-clause-callable
any-requires-clause-callable c =
    serves_from_Range (λ x q k. search rules)
    (λ x low high.
    let inside = rw c.worker_count-n.ensures.answer at high in
    let few = under _ _ c.requires.2 x inside in
    search rules)

pub returns : goal.returns
returns c = record {
  answer = any_in_range _ _ _ _ c.any.ensures.ran (YieldsList-from_range 0 _ _ refl refl) c.worker_count-n.ensures.answer (λ x b q k. search rules);
}
