-- `event_pass::some_event` meets its contract: before each turn no event among the first `first` of any worker has a fault; once `first`
-- reaches the largest event count these are all events (`within_all`). Assumes nothing.
use Rattle.std.proofs.Common.{◌≤◌, ◌+◌, sym, ◌∙◌, arith}
use Rattle.event_pass.proofs.Blocks.{within_none, within_found, within_all}
use Rattle.event_pass.proofs.some_event.Goals as goal

pub loop-first-init : goal.loop-first-init
loop-first-init c = within_none _

pub block_fault-requires : goal.block_fault-requires
block_fault-requires c = (c.requires, omega (arith, c.loop-first-test.true, c.most_events-most.ensures.few), c.loop-first.invariant)

pub returns-then-block_fault : goal.returns-then-block_fault
returns-then-block_fault c = record { answer = sym (within_found _ _ (sym c.block_fault.ensures.answer ∙ c.if-block_fault.true)) }

pub loop-first-preserved : goal.loop-first-preserved
loop-first-preserved c = sym c.block_fault.ensures.answer ∙ c.if-block_fault.false

pub returns : goal.returns
returns c = record { answer = sym c.loop-first.invariant ∙ within_all _ _ (rw c.most_events-most.ensures.answer at c.loop-first-test.false) }

pub returns-else-block_fault : goal.returns-else-block_fault
returns-else-block_fault c =
    let last : c.most_events-most.result ≤ c.loop-first.first + 128 = omega arith in
    record { answer = sym c.if-block_fault.false ∙ c.block_fault.ensures.answer ∙ within_all _ _ (rw c.most_events-most.ensures.answer at last) }
