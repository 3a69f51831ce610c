-- `event_log::event_start` meets its contract: `event_start` is the event offset in the worker's entry, 0 past the last worker, and
-- `entry_or_zero` reads that number. Assumes nothing.
use Rattle.event_log.specs.Layout.{event_start}
use Rattle.event_log.proofs.event_start.Goals as goal

pub returns : goal.returns
unfolding event_start
returns c = record { answer = c.entry_or_zero.ensures.answer }
