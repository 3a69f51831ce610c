-- `event_pass::naming_fault` meets its contract: e is no receive, names no send or a send that is not to w; where none of this holds, the
-- stamps decide. Assumes nothing.
use Rattle.std.proofs.Common.{rules}
use Rattle.record_tests.specs.Records.{send_of, source_fault, order_fault}
use Rattle.event_pass.specs.Inner.Message.{naming_fault}
use Rattle.event_pass.proofs.naming_fault.Goals as goal

pub returns-then-not-is_receive : goal.returns-then-not-is_receive
unfolding naming_fault
returns-then-not-is_receive c = search rules

pub returns-then-send-w : goal.returns-then-send-w
unfolding naming_fault source_fault send_of
returns-then-send-w c = search rules

pub returns-else-send-w : goal.returns-else-send-w
unfolding naming_fault source_fault order_fault send_of
returns-else-send-w c = search rules
