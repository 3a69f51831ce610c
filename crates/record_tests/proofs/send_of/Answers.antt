-- `record_tests::send_of` meets its contract: the event that e names is the one of e's peer with the index `send`, which `event_at` reads.
-- Assumes nothing.
use Rattle.record_tests.specs.Records.{send_of}
use Rattle.record_tests.proofs.send_of.Goals as goal

pub returns : goal.returns
unfolding send_of
returns c = record { answer = c.event_at.ensures.answer }
