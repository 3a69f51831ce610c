-- `cost::write_starts` meets its contract: after w turns position v, for v below w, is the start of worker v, and the others are as lent.
-- Assumes nothing.
use mathlib.Core.Path.{sym}
use Rattle.cost.specs.Words.{start_in}
use Rattle.ranges.proofs.Tabulate.{store_none, store_more}
use Rattle.cost.proofs.write_starts.Goals as goal

pub loop-w-init : goal.loop-w-init
loop-w-init c = sym (store_none _ _)

pub loop-w-preserved : goal.loop-w-preserved
loop-w-preserved c = let more = store_more (start_in c.args.words.now) c.args.positions.now c.loop-w.w c.loop-w-test.true in cc
