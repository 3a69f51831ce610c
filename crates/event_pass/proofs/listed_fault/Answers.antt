-- `event_pass::listed_fault` meets its contract: after j turns each of the first j listed events is a receive that passes tests 9 and 10;
-- the turn that finds another returns yes, the end of the loop no. Assumes nothing.
use Rattle.std.proofs.Common.{refl, ◌∙◌, ap}
use Rattle.ranges.proofs.Any.{sought_none, sought_more, sought_found, sought_end}
use Rattle.event_pass.specs.Inner.Message.{naming_fault}
use Rattle.event_pass.specs.Inner.Blocks.{listed_fault}
use Rattle.event_pass.proofs.Read.{read_within, read_event}
use Rattle.event_pass.proofs.listed_fault.Goals as goal

pub loop-j-init : goal.loop-j-init
loop-j-init c = sought_none

pub event_in-e-requires : goal.event_in-e-requires
event_in-e-requires c =
    let it = c.requires.2 _ c.loop-j-test.true in
    read_within _ c.requires.0 _ c.event_start-start.ensures.answer c.event_count-events.ensures.answer it.within

pub naming_fault-requires : goal.naming_fault-requires
naming_fault-requires c =
    let it = c.requires.2 _ c.loop-j-test.true in
    let event = read_event _ c.requires.0 _ c.event_start-start.ensures.answer c.event_count-events.ensures.answer it.within c.event_in-e.ensures.answer in
    (c.requires.0, rw event it.peer)

pub returns-then-naming_fault : goal.returns-then-naming_fault
unfolding listed_fault
returns-then-naming_fault c =
    let it = c.requires.2 _ c.loop-j-test.true in
    let event = read_event _ c.requires.0 _ c.event_start-start.ensures.answer c.event_count-events.ensures.answer it.within c.event_in-e.ensures.answer in
    record { answer = sought_found c.loop-j.invariant c.loop-j-test.true (c.naming_fault.ensures.answer ∙ ap (naming_fault _ _) event) c.if-naming_fault.true refl }

pub loop-j-preserved : goal.loop-j-preserved
unfolding listed_fault
loop-j-preserved c =
    let it = c.requires.2 _ c.loop-j-test.true in
    let event = read_event _ c.requires.0 _ c.event_start-start.ensures.answer c.event_count-events.ensures.answer it.within c.event_in-e.ensures.answer in
    sought_more c.loop-j.invariant c.loop-j-test.true (c.naming_fault.ensures.answer ∙ ap (naming_fault _ _) event) c.if-naming_fault.false

pub returns : goal.returns
returns c = record { answer = sought_end c.loop-j.invariant c.loop-j-test.false refl }
