-- `record_tests::record_fault` meets its contract: each arm asks its test of event k + 1, the last one of checkpoint k + 1 beside
-- checkpoint k; there are at most 65,535 of them (`records_bound`). Assumes nothing.
use Rattle.std.proofs.Common.{rules, arith}
use Rattle.record_tests.proofs.Bound.{records_bound}
use Rattle.record_tests.specs.Records.{event_fault, record_fault, test_number}
use Rattle.record_tests.proofs.record_fault.Goals as goal

pub overflow_add-next : goal.overflow_add-next
overflow_add-next c = omega (arith, records_bound _ c.requires.0 (test_number c.args.test) c.args.w)

pub returns-in-Fields : goal.returns-in-Fields
unfolding record_fault event_fault
returns-in-Fields c = search rules

pub returns-in-Stamps : goal.returns-in-Stamps
unfolding record_fault event_fault
returns-in-Stamps c = search rules

pub returns-in-Sources : goal.returns-in-Sources
unfolding record_fault event_fault
returns-in-Sources c = search rules

pub returns-in-Orders : goal.returns-in-Orders
unfolding record_fault event_fault
returns-in-Orders c = search rules

pub returns-in-Checkpoints : goal.returns-in-Checkpoints
unfolding record_fault
returns-in-Checkpoints c = search rules
