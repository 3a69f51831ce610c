-- `lent::or_else` meets its contract: the branch is taken where the first number is not 0, and there `or_else` is that number; else it is
-- the second. Assumes nothing.
use mathlib.Core.Path.{sym}
use Rattle.lent.proofs.Lent.{or_else_first, or_else_second}
use Rattle.lent.proofs.or_else.Goals as goal

pub returns-then-first-ne0 : goal.returns-then-first-ne0
returns-then-first-ne0 c = record { answer = sym (or_else_first _ _ c.if-first-ne0.true) }

pub returns : goal.returns
returns c = record { answer = sym (or_else_second _ _ c.if-first-ne0.false) }
