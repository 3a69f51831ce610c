-- `interval_log::write_receive` meets its contract: the five numbers are written each where the last one ends (`event_written`).
-- Assumes nothing.
use mathlib.Core.Path.{◌∙◌}
use native.Mathlib.Omega.{arith}
use Rattle.interval_log.specs.Inner.Space.{naming}
use Rattle.interval_log.proofs.Pieces.{event_written}
use Rattle.interval_log.proofs.write_receive.Goals as goal

pub returns : goal.returns
returns c = record {
  out = c.write-5.ensures.bytes
      ∙ rw (c.write-4.ensures.bytes, c.write-3.ensures.bytes, c.write-2.ensures.bytes, c.write.ensures.bytes, c.from.ensures, c.from-2.ensures, c.kind_number.ensures.answer)
      (event_written (naming c.args.e c.args.number) c.args.at c.args.out.now (omega (arith, c.requires)));
}
