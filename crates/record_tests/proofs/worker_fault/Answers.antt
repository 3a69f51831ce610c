-- `record_tests::worker_fault` meets its contract: `any` asks each record that the test looks at in turn (`any_in_range`). Assumes nothing.
use Rattle.std.proofs.Common.{rules, refl}
use Rattle.std.proofs.lemmas.Iterator.{YieldsList-from_range}
use Rattle.ranges.proofs.Chains.{any_in_range}
use Rattle.record_tests.specs.Records.{worker_fault}
use Rattle.record_tests.proofs.worker_fault.Goals as goal

pub returns : goal.returns
unfolding worker_fault
returns c = record {
  answer = any_in_range _ _ _ _ c.any.ensures.ran (YieldsList-from_range 0 _ _ refl refl) c.record_count-count.ensures.answer (λ x b q k. search rules);
}
