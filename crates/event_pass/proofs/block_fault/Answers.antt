-- `event_pass::block_fault` meets its contract: `any` asks each worker in turn (`any_in_range`), none of which has a fault before `first`.
-- Assumes nothing.
use Rattle.std.proofs.Common.{rules, refl}
use Rattle.std.proofs.lemmas.Iterator.{YieldsList-from_range, serves_from_Range}
use Rattle.ranges.proofs.Any.{any_each}
use Rattle.ranges.proofs.Chains.{any_in_range}
use Rattle.event_pass.specs.Inner.Blocks.{some_within}
use Rattle.event_pass.proofs.block_fault.Goals as goal

pub any-requires-clause-callable : goal.any-requires-clause-callable
unfolding some_within
any-requires-clause-callable c = serves_from_Range (λ x q k. search rules) (λ w l h. let clear = any_each _ _ c.requires.2 w (rw c.worker_count-n.ensures.answer at h) in search rules)

pub returns : goal.returns
unfolding some_within
returns c = record {
  answer = any_in_range _ _ _ _ c.any.ensures.ran (YieldsList-from_range 0 _ _ refl refl) c.worker_count-n.ensures.answer (λ x b q k. search rules);
}
