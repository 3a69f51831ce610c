-- `upper_line::raise` meets its contract: each turn of its loop passes an event that is not blocked, or moves the sender that it awaits on
-- as far as the send; where that sender stops before it, the breakpoint event happened before the receive too. Assumes nothing.
use mathlib.Core.Logic.{inr}
use native.Mathlib.Omega.{arith}
use mathlib.Core.Path.{ap}
use mathlib.Core.Bool.{not}
use Rattle.accept.proofs.Accepted.{well_formed}
use Rattle.upper_line.proofs.Raising.{moving_ends, moved, stepped_on, stepped_less}
use Rattle.upper_line.proofs.Raising.{awaited_send, awaited_own, awaited_less, awaited_stuck}
use Rattle.upper_line.proofs.+raise.Goals as goal

pub loop-line-init : goal.loop-line-init
loop-line-init t c =
    let pre = c.requires in
    record {
      ok = well_formed _ pre.0;
      event = pre.1;
      within = pre.2;
      other = pre.3;
      bound = pre.4;
      began = pre.5;
      passed = pre.5;
      grown = λ v. omega arith;
    }

pub loop-line-smaller-then-not-is_blocked : goal.loop-line-smaller-then-not-is_blocked
loop-line-smaller-then-not-is_blocked t c = stepped_less c.loop-line.invariant c.loop-line-test.true c.is_blocked.ensures.answer (ap not c.if-not-is_blocked.true)

pub loop-line-preserved-then-not-is_blocked : goal.loop-line-preserved-then-not-is_blocked
loop-line-preserved-then-not-is_blocked t c = stepped_on c.loop-line.invariant c.loop-line-test.true c.is_blocked.ensures.answer (ap not c.if-not-is_blocked.true)

pub returns-then-sender-i : goal.returns-then-sender-i
returns-then-sender-i t c =
    let inv = c.loop-line.invariant in
    let less = c.loop-line-test.true in
    let said = c.is_blocked.ensures.answer in record { line = moving_ends inv (inr (awaited_own inv less said (ap not c.if-not-is_blocked.false) c.event_at-e.ensures.answer c.if-sender-i.true)) }

pub raise-requires : goal.raise-requires
raise-requires t c =
    let pre = c.requires in
    let inv = c.loop-line.invariant in
    let less = c.loop-line-test.true in
    let send = awaited_send inv less c.is_blocked.ensures.answer (ap not c.if-not-is_blocked.false) c.event_at-e.ensures.answer in
    (rw (← c.decreases) send.0, (pre.0, pre.1, send.1, c.if-sender-i.false, send.2, inv.passed))

pub returns-then-line-sender : goal.returns-then-line-sender
returns-then-line-sender t c =
    let inv = c.loop-line.invariant in
    let less = c.loop-line-test.true in
    let said = c.is_blocked.ensures.answer in
    let stop = (ap not c.if-not-is_blocked.false) in
    let next = c.event_at-e.ensures.answer in
    let up = c.raise.ensures.line in record { line = moving_ends (moved inv up.passed up.grown) (inr (awaited_stuck inv less said stop next up c.if-line-sender.true)) }

pub loop-line-smaller : goal.loop-line-smaller
loop-line-smaller t c =
    let inv = c.loop-line.invariant in
    let less = c.loop-line-test.true in
    let said = c.is_blocked.ensures.answer in
    let stop = (ap not c.if-not-is_blocked.false) in
    let next = c.event_at-e.ensures.answer in
    let up = c.raise.ensures.line in
    awaited_less inv less said stop next up c.if-sender-i.false c.if-line-sender.false
