-- `choice::above_starts` meets its contract: the branch is taken for a receive without its data, and there `above_starts` is 0; else it is
-- 2 ^ 32. Assumes nothing.
use Rattle.choice.specs.Inner.Compared.{above_starts}
use Rattle.choice.proofs.above_starts.Goals as goal

pub returns-then-is_unlogged-clause-answer : goal.returns-then-is_unlogged-clause-answer
unfolding above_starts
returns-then-is_unlogged-clause-answer c = rw (← c.is_unlogged.ensures.answer, c.if-is_unlogged.true)

pub returns-clause-answer : goal.returns-clause-answer
unfolding above_starts
returns-clause-answer c = rw (← c.is_unlogged.ensures.answer, c.if-is_unlogged.false)
