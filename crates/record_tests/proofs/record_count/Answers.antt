-- `record_tests::record_count` meets its contract: test 11 looks at checkpoints, and every other test at events. Assumes nothing.
use Rattle.std.proofs.Common.{rules}
use Rattle.record_tests.specs.Records.{record_count}
use Rattle.record_tests.proofs.record_count.Goals as goal

pub returns-in-Checkpoints : goal.returns-in-Checkpoints
unfolding record_count
returns-in-Checkpoints c = search rules

pub returns-in_default : goal.returns-in_default
unfolding record_count
returns-in_default c = search rules
