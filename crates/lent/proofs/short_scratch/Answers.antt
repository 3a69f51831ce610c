-- `lent::short_scratch` meets its contract: the branch is taken where fewer words are lent than needed, and there `short_scratch` is 15;
-- else it is 0. Assumes nothing.
use borrow.Author.Tests.{lt-ltb, le-ltb}
use Rattle.lent.proofs.short_scratch.Goals as goal

pub returns-then-scratch-needed : goal.returns-then-scratch-needed
returns-then-scratch-needed c = record { answer = rw (lt-ltb _ _ c.if-scratch-needed.true) }

pub returns : goal.returns
returns c = record { answer = rw (le-ltb _ _ c.if-scratch-needed.false) }
