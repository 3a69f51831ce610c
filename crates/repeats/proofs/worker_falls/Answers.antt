-- `repeats::worker_falls` meets its contract: after k turns the row has for each peer at least every send of it that the first k events
-- name, and none of these receives again: a receive that passes names a send above its peer's word. Assumes nothing.
use Rattle.std.proofs.Common.{refl, sym}
use lib.ListN.{length-set}
use Rattle.ranges.proofs.Any.{sought_none, sought_more, sought_end}
use Rattle.repeats.specs.Inner.Again.{worker_again}
use Rattle.repeats.proofs.Again.{rising_none, rising_read, rising_more}
use Rattle.repeats.proofs.Read.{read_within, read_event}
use Rattle.repeats.proofs.worker_falls.Goals as goal

pub loop-k-init : goal.loop-k-init
loop-k-init c = (rising_none _ _ _, sought_none, refl)

pub event_in-e-requires : goal.event_in-e-requires
event_in-e-requires c = read_within _ c.requires.0 _ c.event_start-start.ensures.answer c.event_count-events.ensures.answer c.loop-k-test.true

pub bounds-row-peer : goal.bounds-row-peer
bounds-row-peer c =
    (read_event _ c.requires.0 _ c.event_start-start.ensures.answer c.event_count-events.ensures.answer c.loop-k-test.true c.requires.1 c.event_in-e.ensures.answer).few

pub bounds-row-peer-in-loop-k : goal.bounds-row-peer-in-loop-k
bounds-row-peer-in-loop-k c =
    (read_event _ c.requires.0 _ c.event_start-start.ensures.answer c.event_count-events.ensures.answer c.loop-k-test.true c.requires.1 c.event_in-e.ensures.answer).few

pub loop-k-preserved : goal.loop-k-preserved
loop-k-preserved c =
    let inv = c.loop-k.invariant in
    let e = read_event _ c.requires.0 _ c.event_start-start.ensures.answer c.event_count-events.ensures.answer c.loop-k-test.true c.requires.1 c.event_in-e.ensures.answer in
    let none = rising_read _ _ _ _ inv.0 c.requires.1 e.event c.before_send.ensures.answer c.if-before_send-last.false in
    (rw (c.max.ensures, e.event) (rising_more _ _ _ _ inv.0 (rw (← e.event, inv.2) e.few)), sought_more inv.1 c.loop-k-test.true refl none, simp length-set inv.2)

pub returns : goal.returns
unfolding worker_again
returns c = record { rises = λ rises. sym (sought_end c.loop-k.invariant.1 c.loop-k-test.false c.event_count-events.ensures.answer) }
