-- `event_log::worker_event` meets its contract: index 0 and an index past the count give no event; any other is record x - 1 of the worker's
-- section, which lies within the log by tests 1 to 6. Assumes nothing.
use mathlib.Core.Path.{sym, ◌∙◌}
use native.Mathlib.Omega.{arith}
use Rattle.event_log.proofs.Read.{event_none, event_past, events_within, event_at_lem, entry_within, entry_count, entry_start}
use Rattle.event_log.proofs.worker_event.Goals as goal

pub entry-count-requires : goal.entry-count-requires
entry-count-requires c = (omega arith, entry_within _ c.requires.0 _ c.requires.1)

pub returns-then-x-eq0 : goal.returns-then-x-eq0
returns-then-x-eq0 c = record { answer = c.no_event.ensures.answer ∙ sym (rw c.if-x-eq0.true (event_none _ _)) }

pub returns-then-count-x : goal.returns-then-count-x
returns-then-count-x c = record { answer = c.no_event-then-count-x.ensures.answer ∙ sym (event_past _ _ _ (rw (c.entry-count.ensures.answer, entry_count _ _ c.requires.1) at c.if-count-x.true)) }

pub entry-start-requires : goal.entry-start-requires
entry-start-requires c = (omega arith, entry_within _ c.requires.0 _ c.requires.1)

pub event_in-requires : goal.event_in-requires
event_in-requires c = let size = c.entry-count.ensures.answer ∙ entry_count _ _ c.requires.1 in
    (rw (c.entry-start.ensures.answer, entry_start _ _ c.requires.1) (events_within _ c.requires.0 _ _ _ c.if-x-eq0.false size c.if-count-x.false), omega arith)

pub returns : goal.returns
returns c = let size = c.entry-count.ensures.answer ∙ entry_count _ _ c.requires.1 in record {
  answer = c.event_in.ensures.answer
      ∙ rw (c.entry-start.ensures.answer, entry_start _ _ c.requires.1) (event_at_lem _ c.requires.0 _ _ _ c.if-x-eq0.false size c.if-count-x.false);
}
