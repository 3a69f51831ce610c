-- `event_log::entry_or_zero` meets its contract: past the last worker `entry_or_zero` is 0; an entry of a worker of the log lies within the header,
-- and this within the log by test 4. Assumes nothing.
use borrow.Author.Tests.{le-leb, lt-leb}
use Rattle.event_log.specs.Layout.{entry_or_zero}
use Rattle.event_log.proofs.Read.{size_read, entry_within}
use Rattle.event_log.proofs.entry_or_zero.Goals as goal

pub returns-then-worker_count-w : goal.returns-then-worker_count-w
unfolding entry_or_zero
returns-then-worker_count-w c = record { answer = rw (← size_read, le-leb _ _ (rw c.worker_count.ensures.answer at c.if-worker_count-w.true)) }

pub entry-requires : goal.entry-requires
entry-requires c = (c.requires.1, entry_within _ c.requires.0 _ (rw c.worker_count.ensures.answer at c.if-worker_count-w.false))

pub returns : goal.returns
unfolding entry_or_zero
returns c = record { answer = rw (← size_read, lt-leb _ _ (rw c.worker_count.ensures.answer at c.if-worker_count-w.false)) c.entry.ensures.answer }
