-- `upper_line::raise_worker` meets its contract: the breakpoint's own worker stays, since the breakpoint event happened before its next
-- event if it has one (`raised_own`); any other is moved on by `raise`, with its event count as the target. Assumes nothing.
use Rattle.accept.proofs.Accepted.{well_formed}
use Rattle.upper_line.proofs.Raising.{raised_own}
use Rattle.upper_line.proofs.raise_worker.Goals as goal

pub returns-then-w-i : goal.returns-then-w-i
returns-then-w-i c = record { line = rw c.if-w-i.true (raised_own _ _ _ (well_formed _ c.requires.0) c.requires.1 _ c.requires.3) }
