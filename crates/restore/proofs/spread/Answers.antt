-- `restore::spread` meets its contract: with w words left to move, the first w words are the cut's as lent, and each worker from w on has
-- its cut in its first plan word. Assumes nothing.
use Rattle.restore.proofs.Spreading.{spread_more, spread_all}
use Rattle.restore.proofs.spread.Goals as goal

pub loop-w-preserved : goal.loop-w-preserved
loop-w-preserved c = spread_more c.loop-w.invariant c.loop-w-test.true

pub returns : goal.returns
returns c = record { words = spread_all c.requires c.loop-w.invariant c.loop-w-test.false }
