-- `bytes_le::write` meets its contract: each turn stores one byte more of the number (`stored_next`). Assumes nothing.
use Rattle.std.proofs.Common.{arith, sym}
use Rattle.lent.proofs.Overwrite.{overwrite_none}
use Rattle.bytes_le.specs.Little.{bytes_of}
use Rattle.bytes_le.proofs.Places.{stored_next}
use Rattle.bytes_le.proofs.write.Goals as goal

pub loop-k-init : goal.loop-k-init
unfolding bytes_of
loop-k-init g c = sym (overwrite_none _ _)

pub loop-k-preserved : goal.loop-k-preserved
loop-k-preserved g c = rw c.loop-k.invariant (stored_next c.loop-k.k c.args.x c.args.at c.args.out.now (omega arith) (omega arith))
