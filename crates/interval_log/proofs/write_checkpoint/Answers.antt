-- `interval_log::write_checkpoint` meets its contract: the two numbers are written one behind the other (`checkpoint_written`).
-- Assumes nothing.
use mathlib.Core.Path.{◌∙◌}
use native.Mathlib.Omega.{arith}
use Rattle.interval_log.proofs.Pieces.{checkpoint_written}
use Rattle.interval_log.proofs.write_checkpoint.Goals as goal

pub returns : goal.returns
returns c = record {
  out = c.write-2.ensures.bytes
      ∙ rw c.write.ensures.bytes (checkpoint_written c.args.number.0 c.args.identifier c.args.at c.args.out.now (omega (arith, c.requires)));
}
