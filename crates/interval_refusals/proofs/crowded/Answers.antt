-- `interval_refusals::crowded` meets its contract: `any` asks each worker in turn (`any_in_range`). Assumes nothing.
use Rattle.std.proofs.Common.{rules, refl}
use Rattle.std.proofs.lemmas.Iterator.{YieldsList-from_range}
use Rattle.ranges.proofs.Chains.{any_in_range}
use Rattle.interval_refusals.specs.Calls.{crowded}
use Rattle.interval_refusals.proofs.crowded.Goals as goal

pub returns : goal.returns
unfolding crowded
returns c = record {
  answer = any_in_range _ _ _ _ c.any.ensures.ran (YieldsList-from_range 0 _ _ refl refl) c.worker_count-n.ensures.answer (λ x b q k. search rules);
}
