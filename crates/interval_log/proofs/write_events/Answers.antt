-- `interval_log::write_events` meets its contract: before each turn the receives among the first k events are written, one behind the other
-- (`Receives`), and the next one is written as the interval log has it. Assumes nothing.
use mathlib.Core.Path.{sym}
use Rattle.event_log.proofs.Read.{next_within}
use Rattle.accept.proofs.Accepted.{accepted_layout, well_formed}
use Rattle.interval_log.proofs.Kept.{receives_begin, event_read, receives_past, receives_room, receives_more, receives_end}
use Rattle.interval_log.proofs.write_events.Goals as goal

pub loop-k-init : goal.loop-k-init
loop-k-init c = receives_begin _ _ _ _ c.requires

pub event_in-e-requires : goal.event_in-e-requires
event_in-e-requires c =
    let layout = accepted_layout _ c.args.table.now.accepted in
    (next_within _ layout _ _ _ _ c.event_start-start.ensures.answer c.event_count-events.ensures.answer c.loop-k-test.true, c.loop-k-test.true)

pub loop-k-preserved-then-not-is_receive : goal.loop-k-preserved-then-not-is_receive
loop-k-preserved-then-not-is_receive c =
    let read = event_read c.args.table.now.accepted c.event_start-start.ensures.answer c.event_count-events.ensures.answer c.loop-k-test.true c.event_in-e.ensures.answer in
    receives_past c.loop-k.invariant read c.if-not-is_receive.ensures.answer

pub named_interval-number-requires : goal.named_interval-number-requires
named_interval-number-requires c =
    let read = event_read c.args.table.now.accepted c.event_start-start.ensures.answer c.event_count-events.ensures.answer c.loop-k-test.true c.event_in-e.ensures.answer in
    let sent = (well_formed _ c.args.table.now.accepted).sent _ _ (rw read.is at (sym c.if-not-is_receive.ensures.answer)) in
    rw read.is (sent.within, sent.positive, sent.counted)

pub write_receive-requires : goal.write_receive-requires
write_receive-requires c =
    let read = event_read c.args.table.now.accepted c.event_start-start.ensures.answer c.event_count-events.ensures.answer c.loop-k-test.true c.event_in-e.ensures.answer in
    receives_room c.loop-k.invariant read c.if-not-is_receive.ensures.answer

pub loop-k-preserved : goal.loop-k-preserved
loop-k-preserved c =
    let read = event_read c.args.table.now.accepted c.event_start-start.ensures.answer c.event_count-events.ensures.answer c.loop-k-test.true c.event_in-e.ensures.answer in
    receives_more c.loop-k.invariant read c.if-not-is_receive.ensures.answer c.named_interval-number.ensures.answer c.write_receive.ensures.out c.write_receive.auto.out

pub returns : goal.returns
returns c =
    let end = receives_end c.loop-k.invariant (rw (← c.event_count-events.ensures.answer) c.loop-k-test.false) in
    record { answer = end.0; out = end.1 }
