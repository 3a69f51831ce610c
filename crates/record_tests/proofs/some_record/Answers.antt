-- `record_tests::some_record` meets its contract: `any` asks each worker in turn (`any_in_range`). Assumes nothing.
use Rattle.std.proofs.Common.{rules, refl}
use Rattle.std.proofs.lemmas.Iterator.{YieldsList-from_range}
use Rattle.ranges.proofs.Chains.{any_in_range}
use Rattle.record_tests.specs.Records.{some_record}
use Rattle.record_tests.proofs.some_record.Goals as goal

pub returns : goal.returns
unfolding some_record
returns c = record {
  answer = any_in_range _ _ _ _ c.any.ensures.ran (YieldsList-from_range 0 _ _ refl refl) c.worker_count-n.ensures.answer (λ x b q k. search rules);
}
