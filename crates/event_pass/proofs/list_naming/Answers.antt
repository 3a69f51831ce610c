-- `event_pass::list_naming` meets its contract: up to event k no event of the block has a fault of its own, which would be one of 7 to 10
-- (`own_decides`), the first `count` words list those that name another, and `before` is event k's stamp. Assumes nothing.
use Rattle.std.proofs.Common.{◌≡◌, sym, ◌∙◌, ap, ◌<◌, arith}
use lib.ListN.{length-set}
use Rattle.ranges.proofs.Any.{any_found}
use Rattle.records.specs.declared.Event.{Event}
use Rattle.event_log.specs.Layout.{workers_of}
use Rattle.event_log.specs.Model.{event_count}
use Rattle.record_tests.specs.Records.{event_fault, record_fault}
use Rattle.event_pass.specs.Inner.Blocks.{block_size}
use Rattle.event_pass.proofs.Message.{own_decides}
use Rattle.event_pass.proofs.Lists.{lists_none, lists_more}
use Rattle.event_pass.proofs.Read.{read_within, read_event}
use Rattle.event_pass.proofs.list_naming.Goals as goal

pub loop-k-init : goal.loop-k-init
loop-k-init c = (lists_none _ _ _ _, c.requires.4, ap (λ (e : Event). e.stamp) c.event_at-before.ensures.answer)

pub event_in-e-requires : goal.event_in-e-requires
event_in-e-requires c =
    read_within _ c.requires.0 _ c.event_start-start.ensures.answer c.event_count-events.ensures.answer (omega (arith, c.requires.2))

pub returns-then-own_fault : goal.returns-then-own_fault
unfolding record_fault event_fault
returns-then-own_fault c =
    let inside : c.loop-k.k < event_count (workers_of c.args.log.now) c.args.w = omega (arith, c.requires.2) in
    let event = read_event _ c.requires.0 _ c.event_start-start.ensures.answer c.event_count-events.ensures.answer inside c.event_in-e.ensures.answer in
    let own = rw (c.loop-k.invariant.2, event) at c.own_fault.ensures.answer in
    record { answer = any_found (record_fault 0 _ _) _ _ c.loop-k-test.true (own_decides _ _ _ _ (sym own ∙ c.if-own_fault.true)) }

pub loop-k-preserved : goal.loop-k-preserved
loop-k-preserved c =
    let inv = c.loop-k.invariant in
    let inside : c.loop-k.k < event_count (workers_of c.args.log.now) c.args.w = omega (arith, c.requires.2) in
    let event = read_event _ c.requires.0 _ c.event_start-start.ensures.answer c.event_count-events.ensures.answer inside c.event_in-e.ensures.answer in
    let own = rw (inv.2, event) at c.own_fault.ensures.answer in
    let room : c.loop-k.count < block_size = omega (arith, inv.0.few, c.requires.3) in (
      rw (c.names.ensures.answer, event) (lists_more _ _ _ _ _ _ inv.0 inside (rw inv.1 room) (sym own ∙ c.if-own_fault.false)),
      simp length-set inv.1,
      ap (λ (e : Event). e.stamp) event,
    )

pub returns : goal.returns
returns c =
    let last : c.loop-k.k ≡ c.args.end = omega (arith, c.requires.1) in
    record { answer = rw last at c.loop-k.invariant.0 }
