-- `event_pass::events_fault` meets its contract: a worker with no event after `first` has nothing more to test; else a fault of the block
-- is an event's own, or one of a listed event (`listed_decide`). Assumes nothing.
use Rattle.std.proofs.Common.{sym, ◌∙◌, arith}
use Rattle.event_pass.specs.Inner.Blocks.{fault_within}
use Rattle.event_pass.proofs.Blocks.{within_before, within_past}
use Rattle.event_pass.proofs.Lists.{listed_decide}
use Rattle.event_pass.proofs.events_fault.Goals as goal

pub returns-then-count-first : goal.returns-then-count-first
returns-then-count-first c = record { answer = sym (within_past _ _ _ _ (rw c.event_count-count.ensures.answer at c.if-count-first.true) (omega arith) c.requires.2) }

pub listed_fault-requires : goal.listed_fault-requires
listed_fault-requires c =
    let lists = c.in-Some.ensures.answer in
    (c.requires.0, omega (arith, lists.few, c.block_end.ensures.answer), λ j h. (lists.each j h).2)

pub returns-in-Some : goal.returns-in-Some
unfolding fault_within
returns-in-Some c =
    let clear = within_before _ _ _ (rw c.event_count-count.ensures.answer at c.if-count-first.false) c.requires.2 in
    record { answer = c.listed_fault.ensures.answer ∙ listed_decide _ _ _ _ _ _ c.in-Some.ensures.answer clear ∙ rw (c.block_end.ensures.answer, c.event_count-count.ensures.answer) }

pub returns-in-None : goal.returns-in-None
unfolding fault_within
returns-in-None c = record { answer = sym (rw (c.block_end.ensures.answer, c.event_count-count.ensures.answer) at c.in-None.ensures.answer) }
