-- `record_tests::checkpoint_fault` meets its contract: the index is over the event count or below the previous index, or else the
-- identifiers decide. Assumes nothing.
use Rattle.std.proofs.Common.{rules}
use Rattle.record_tests.specs.Records.{checkpoint_fault}
use Rattle.record_tests.proofs.checkpoint_fault.Goals as goal

pub returns-then-c-before : goal.returns-then-c-before
unfolding checkpoint_fault
returns-then-c-before c = search rules

pub returns-else-c-before : goal.returns-else-c-before
unfolding checkpoint_fault
returns-else-c-before c = search rules
