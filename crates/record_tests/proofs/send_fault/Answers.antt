-- `record_tests::send_fault` meets its contract: of a send the answer is whether it names an event; any other event fails where it names 0,
-- or else an event past its peer's count. Assumes nothing.
use Rattle.std.proofs.Common.{rules}
use Rattle.record_tests.specs.Records.{send_fault}
use Rattle.record_tests.proofs.send_fault.Goals as goal

pub returns-then-is_send : goal.returns-then-is_send
unfolding send_fault
returns-then-is_send c = search rules

pub returns-then-e-eq0 : goal.returns-then-e-eq0
unfolding send_fault
returns-then-e-eq0 c = search rules

pub returns-else-e-eq0 : goal.returns-else-e-eq0
unfolding send_fault
returns-else-e-eq0 c = search rules
