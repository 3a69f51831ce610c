-- `record_tests::source_fault` meets its contract: an event that is no receive has no fault; a receive has one where the event that it
-- names is no send, or else where that is not to w. Assumes nothing.
use Rattle.std.proofs.Common.{rules}
use Rattle.record_tests.specs.Records.{source_fault}
use Rattle.record_tests.proofs.source_fault.Goals as goal

pub returns-then-not-is_receive : goal.returns-then-not-is_receive
unfolding source_fault
returns-then-not-is_receive c = search rules

pub returns-then-not-is_send : goal.returns-then-not-is_send
unfolding source_fault
returns-then-not-is_send c = search rules

pub returns-else-not-is_send : goal.returns-else-not-is_send
unfolding source_fault
returns-else-not-is_send c = search rules
