-- `repeats::mark_worker` meets its contract: after k turns none of the first k events of w receives again a send with a bit in the table,
-- and bit i says whether one of them, or of a worker before w, receives event number low + i. Assumes nothing.
use Rattle.std.proofs.Common.{◌≡◌, ◌∙◌, arith}
use Rattle.ranges.proofs.Any.{sought_none, sought_more, sought_found, sought_end}
use Rattle.repeats.specs.Inner.Table.{worker_again_within}
use Rattle.repeats.proofs.Marks.{marks_more, found_again, marks_worker}
use Rattle.repeats.proofs.Read.{read_within, read_event}
use Rattle.repeats.proofs.mark_worker.Goals as goal

pub loop-k-init : goal.loop-k-init
loop-k-init c = (sought_none, c.requires.3)

pub event_in-e-requires : goal.event_in-e-requires
event_in-e-requires c = read_within _ c.requires.0 _ c.event_start-start.ensures.answer c.event_count-events.ensures.answer c.loop-k-test.true

pub mark_event-requires : goal.mark_event-requires
mark_event-requires c =
    let e = read_event _ c.requires.0 _ c.event_start-start.ensures.answer c.event_count-events.ensures.answer c.loop-k-test.true c.requires.1 c.event_in-e.ensures.answer in
    (c.requires.2, e.peer, e.named, omega (arith, c.requires.4))

pub returns-then-mark_event-clause-answer : goal.returns-then-mark_event-clause-answer
unfolding worker_again_within
returns-then-mark_event-clause-answer c =
    let inv = c.loop-k.invariant in
    let e = read_event _ c.requires.0 _ c.event_start-start.ensures.answer c.event_count-events.ensures.answer c.loop-k-test.true c.requires.1 c.event_in-e.ensures.answer in
    let found = c.mark_event.ensures.answer ∙ rw (← c.loop-k.auto.table, e.event) (found_again _ _ _ _ _ inv.1 c.requires.1) in
    sought_found inv.0 c.loop-k-test.true found c.if-mark_event.true c.event_count-events.ensures.answer

pub loop-k-preserved : goal.loop-k-preserved
loop-k-preserved c =
    let inv = c.loop-k.invariant in
    let e = read_event _ c.requires.0 _ c.event_start-start.ensures.answer c.event_count-events.ensures.answer c.loop-k-test.true c.requires.1 c.event_in-e.ensures.answer in
    let found = c.mark_event.ensures.answer ∙ rw (← c.loop-k.auto.table, e.event) (found_again _ _ _ _ _ inv.1 c.requires.1) in
    (sought_more inv.0 c.loop-k-test.true found c.if-mark_event.false, rw (c.mark_event.ensures.table, e.event) (marks_more _ _ _ _ _ inv.1 c.requires.1))

pub returns : goal.returns
unfolding worker_again_within
returns c =
    let inv = c.loop-k.invariant in
    let count = c.event_count-events.ensures.answer in
    let last : c.loop-k.k ≡ c.event_count-events.result = omega arith in
    record { answer = sought_end inv.0 c.loop-k-test.false count; marks = λ passed. marks_worker _ _ _ _ (rw (last, count) at inv.1) }
