-- `record_tests::order_fault` meets its contract: a receive is compared with the event that it names, and any other event has no fault.
-- Assumes nothing.
use Rattle.std.proofs.Common.{rules}
use Rattle.record_tests.specs.Records.{order_fault}
use Rattle.record_tests.proofs.order_fault.Goals as goal

pub returns-then-is_receive : goal.returns-then-is_receive
unfolding order_fault
returns-then-is_receive c = search rules

pub returns-else-is_receive : goal.returns-else-is_receive
unfolding order_fault
returns-else-is_receive c = search rules
