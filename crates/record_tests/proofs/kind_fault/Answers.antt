-- `record_tests::kind_fault` meets its contract: an event has a fault exactly where it is neither a send nor a receive. Assumes nothing.
use Rattle.std.proofs.Common.{rules}
use Rattle.record_tests.specs.Records.{kind_fault}
use Rattle.record_tests.proofs.kind_fault.Goals as goal

pub returns : goal.returns
unfolding kind_fault
returns c = search rules
