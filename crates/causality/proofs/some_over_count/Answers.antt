-- `causality::some_over_count` meets its contract: `any` asks each word in turn (`any_in_range`). Assumes nothing.
use Rattle.std.proofs.Common.{rules, refl, tests}
use Rattle.std.proofs.lemmas.Iterator.{YieldsList-from_range, serves_from_Range}
use Rattle.ranges.proofs.Chains.{any_in_range}
use Rattle.accept.proofs.Accepted.{accepted_layout}
use Rattle.refusals.specs.Refusals.{over_count}
use Rattle.causality.proofs.some_over_count.Goals as goal

pub any-requires-clause-callable : goal.any-requires-clause-callable
any-requires-clause-callable c = serves_from_Range (λ x q k. search rules) (λ x low high. let layout = accepted_layout _ c.requires.0 in search rules)

pub returns : goal.returns
unfolding over_count
returns c = record {
  answer = any_in_range _ _ _ _ c.any.ensures.ran (YieldsList-from_range 0 _ _ refl refl) c.worker_count-n.ensures.answer (λ x b q k. search (rules, tests));
}
