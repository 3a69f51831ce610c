-- `pack::write_fields` meets its contract: form, worker count and length are written at bytes 0, 2 and 4, each where the last one ends
-- (`fields_written`). Assumes nothing.
use mathlib.Core.Path.{◌∙◌}
use Rattle.pack.proofs.Writing.{fields_written}
use Rattle.pack.proofs.write_fields.Goals as goal

pub returns : goal.returns
returns c = record {
  out = c.write-3.ensures.bytes
      ∙ rw (c.write-2.ensures.bytes, c.write.ensures.bytes) (fields_written c.args.form c.args.n c.args.size c.args.out.now);
}
