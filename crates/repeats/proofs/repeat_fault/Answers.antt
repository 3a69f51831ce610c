-- `repeats::repeat_fault` meets its contract: two receives of one send are of one worker (`repeats_again`), so where the receives of all workers
-- rise there are none; else each table tells of the numbers that it has, and all tables together of all numbers (`within_all`). Assumes nothing.
use Rattle.std.proofs.Common.{◌≤◌, ◌+◌, sym, ◌∙◌, arith}
use Rattle.event_log.proofs.Read.{workers_few}
use Rattle.repeats.specs.Repeats.{repeat_fault}
use Rattle.repeats.proofs.Again.{repeats_again}
use Rattle.repeats.proofs.Places.{within_none, within_more, within_some, within_all}
use Rattle.repeats.proofs.repeat_fault.Goals as goal
use Rattle.repeats.proofs.repeat_fault.Goals.{then-not-receives_once-via-then-not-receives_once, then-not-receives_once-via-else-not-receives_once+then-not-some_falls}

-- form 1, or every worker's receives rise
pub returns-then-not-receives_once : goal.returns-then-not-receives_once
unfolding repeat_fault
returns-then-not-receives_once c = record {
  answer = elim c.then-not-receives_once.branch [
    | then-not-receives_once-via-then-not-receives_once w ↦ rw (sym c.receives_once.ensures.answer ∙ w.if-not-receives_once.true)
    | then-not-receives_once-via-else-not-receives_once+then-not-some_falls w ↦
        rw (sym c.receives_once.ensures.answer ∙ w.if-not-receives_once.false, repeats_again _ c.requires.1)
        (sym (w.some_falls.ensures.rises w.if-not-some_falls.true))
  ];
}

pub number_events-events-requires : goal.number_events-events-requires
number_events-events-requires c = (c.requires.0, workers_few _ c.requires.0)

-- the small table has a bit for each number
pub returns-then-events : goal.returns-then-events
unfolding repeat_fault
returns-then-events c =
    let again = within_all _ c.requires.1 _ (rw c.number_events-events.ensures.events at c.if-events.true) in
    record { answer = rw (← c.if-not-receives_once.ensures.answer, repeats_again _ c.requires.1) (c.repeat_within.ensures.answer ∙ again) }

-- a group of numbers after the other
pub loop-low-init : goal.loop-low-init
loop-low-init c = within_none _ 0 0 (omega arith)

pub loop-low-preserved : goal.loop-low-preserved
loop-low-preserved c = within_more _ _ _ _ c.loop-low.invariant (sym c.if-repeat_within.ensures.answer)

pub returns-then-repeat_within : goal.returns-then-repeat_within
unfolding repeat_fault
returns-then-repeat_within c =
    let again = within_some _ _ _ (sym c.if-repeat_within.ensures.answer) in
    record { answer = rw (← c.if-not-receives_once.ensures.answer, repeats_again _ c.requires.1, again) }

-- the last group has the last number
pub returns-else-events : goal.returns-else-events
unfolding repeat_fault
returns-else-events c =
    let again = within_all _ c.requires.1 _ (rw c.number_events-events.ensures.events at c.loop-low-test.false) in
    record { answer = rw (← c.if-not-receives_once.ensures.answer, repeats_again _ c.requires.1) (sym c.loop-low.invariant ∙ again) }

pub returns-else-repeat_within : goal.returns-else-repeat_within
unfolding repeat_fault
returns-else-repeat_within c =
    let last : c.number_events-events.result ≤ c.loop-low.low + 524288 = omega arith in
    let none = within_more _ _ _ _ c.loop-low.invariant (sym c.if-repeat_within.ensures.answer) in
    let again = within_all _ c.requires.1 _ (rw c.number_events-events.ensures.events at last) in
    record { answer = rw (← c.if-not-receives_once.ensures.answer, repeats_again _ c.requires.1) (sym none ∙ again) }
