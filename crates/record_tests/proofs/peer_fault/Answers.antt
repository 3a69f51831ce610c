-- `record_tests::peer_fault` meets its contract: the peer is w itself, or else `peer_fault` is whether it is not below the worker count.
-- Assumes nothing.
use Rattle.std.proofs.Common.{rules}
use Rattle.record_tests.specs.Records.{peer_fault}
use Rattle.record_tests.proofs.peer_fault.Goals as goal

pub returns-then-peer-w : goal.returns-then-peer-w
unfolding peer_fault
returns-then-peer-w c = search rules

pub returns-else-peer-w : goal.returns-else-peer-w
unfolding peer_fault
returns-else-peer-w c = search rules
