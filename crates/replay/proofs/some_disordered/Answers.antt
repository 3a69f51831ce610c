-- `replay::some_disordered` meets its contract: `any` asks each worker in turn (`any_in_range`). Assumes nothing.
use Rattle.std.proofs.Common.{rules, refl}
use Rattle.std.proofs.lemmas.Iterator.{YieldsList-from_range}
use Rattle.ranges.proofs.Chains.{any_in_range}
use Rattle.accept.proofs.Accepted.{accepted_layout}
use Rattle.replay.proofs.some_disordered.Goals as goal

pub worker_count-n-requires : goal.worker_count-n-requires
worker_count-n-requires c = accepted_layout _ c.requires.0

pub returns : goal.returns
returns c = record {
  answer = any_in_range _ _ _ _ c.any.ensures.ran (YieldsList-from_range 0 _ _ refl refl) c.worker_count-n.ensures.answer (λ x b q k. search rules);
}
