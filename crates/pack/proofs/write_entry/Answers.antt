-- `pack::write_entry` meets its contract: the five numbers are those of `entry_numbers`, the checkpoints' offset being `start` plus 12 bytes
-- for each event; both offsets fit 32 bits. Assumes nothing.
use mathlib.Core.Path.{◌∙◌}
use Rattle.pack.proofs.write_entry.Goals as goal

pub returns : goal.returns
returns c = record { out = c.write_numbers.ensures.out ∙ rw c.header_of.ensures.answer }
