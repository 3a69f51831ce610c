-- `lent::copy_bytes` meets its contract: after k turns the first k bytes of `from` stand from place `at` on, and every other byte is as
-- lent. Assumes nothing.
use mathlib.Core.Path.{sym}
use Rattle.lent.proofs.Overwrite.{overwrite_none, overwrite_next}
use Rattle.lent.proofs.copy_bytes.Goals as goal

pub loop-k-init : goal.loop-k-init
loop-k-init c = sym (overwrite_none _ _)

pub loop-k-preserved : goal.loop-k-preserved
loop-k-preserved c = rw c.loop-k.invariant (overwrite_next _ _ c.args.from.now c.loop-k.k c.loop-k-test.true c.requires)
