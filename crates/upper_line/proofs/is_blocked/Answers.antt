-- `upper_line::is_blocked` meets its contract: a receive is blocked where its send is beyond the line or is the breakpoint event; a send
-- names 0, which is neither, so its kind need not be asked for (`blocked_any`). Assumes nothing.
use Rattle.std.proofs.Common.{arith}
use Rattle.std.proofs.lemmas.Bool.Decides.{nat_tests}
use Rattle.upper_line.proofs.Blocked.{blocked_any}
use Rattle.upper_line.proofs.is_blocked.Goals as goal

pub returns-then-line-peer : goal.returns-then-line-peer
returns-then-line-peer c =
    let any = blocked_any _ c.requires.0 _ _ _ c.event_at-e.ensures.answer c.requires.2 c.args.i c.args.event c.args.line.now c.requires.3 in
    record { answer = grind (arith, nat_tests, any) }

pub returns-then-peer-i : goal.returns-then-peer-i
returns-then-peer-i c =
    let any = blocked_any _ c.requires.0 _ _ _ c.event_at-e.ensures.answer c.requires.2 c.args.i c.args.event c.args.line.now c.requires.3 in
    record { answer = grind (arith, nat_tests, any) }

pub returns-else-peer-i : goal.returns-else-peer-i
returns-else-peer-i c =
    let any = blocked_any _ c.requires.0 _ _ _ c.event_at-e.ensures.answer c.requires.2 c.args.i c.args.event c.args.line.now c.requires.3 in
    record { answer = grind (arith, nat_tests, any) }
