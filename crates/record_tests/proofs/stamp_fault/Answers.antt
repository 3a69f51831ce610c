-- `record_tests::stamp_fault` meets its contract: the stamp is compared with that of event k of w, as `event_at` reads it. Assumes nothing.
use Rattle.record_tests.specs.Records.{stamp_fault}
use Rattle.record_tests.proofs.stamp_fault.Goals as goal

pub returns : goal.returns
unfolding stamp_fault
returns c = record { answer = rw (← c.event_at-before.ensures.answer) }
