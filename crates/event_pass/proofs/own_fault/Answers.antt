-- `event_pass::own_fault` meets its contract: spare, peer or stamp fails; of the events left one that names none fails exactly where it is
-- no send, and one that names another passes. Assumes nothing.
use Rattle.std.proofs.Common.{rules}
use Rattle.event_pass.specs.Inner.Message.{is_naming, own_fault}
use Rattle.event_pass.proofs.own_fault.Goals as goal

pub returns-then-e-before : goal.returns-then-e-before
unfolding own_fault is_naming
returns-then-e-before c = search rules

pub returns-then-e-eq0 : goal.returns-then-e-eq0
unfolding own_fault is_naming
returns-then-e-eq0 c = search rules

pub returns-else-e-eq0 : goal.returns-else-e-eq0
unfolding own_fault is_naming
returns-else-e-eq0 c = search rules
