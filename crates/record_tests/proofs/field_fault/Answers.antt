-- `record_tests::field_fault` meets its contract: spare, kind or peer fails, or else `field_fault` is the test of the send. Assumes
-- nothing.
use Rattle.std.proofs.Common.{rules}
use Rattle.record_tests.specs.Records.{field_fault}
use Rattle.record_tests.proofs.field_fault.Goals as goal

pub returns-then-peer_fault : goal.returns-then-peer_fault
unfolding field_fault
returns-then-peer_fault c = search rules

pub returns-else-peer_fault : goal.returns-else-peer_fault
unfolding field_fault
returns-else-peer_fault c = search rules
