-- `event_log::events_part` meets its contract: worker w is one of the log's, so by tests 4 and 6 its entry and its section of events lie within
-- the log. Assumes nothing.
use native.Mathlib.Omega.{arith}
use Rattle.event_log.specs.Layout.{event_section}
use Rattle.event_log.proofs.Read.{entry_within, entry_of}
use Rattle.event_log.proofs.events_part.Goals as goal

pub records_part-requires : goal.records_part-requires
records_part-requires c = (omega arith, entry_within _ c.requires.0 _ c.requires.1, (entry_of _ c.requires.0 _ c.requires.1).events_end)

pub returns : goal.returns
unfolding event_section
returns c = record { answer = c.records_part.ensures.answer }
