-- `pack::sections_size` meets its contract: in a log that passes 1 to 6 the events part has 12 bytes for each event and the checkpoints
-- part 8 for each checkpoint (`parts_long`). Assumes nothing.
use Rattle.pack.proofs.Writing.{parts_long}
use Rattle.pack.proofs.sections_size.Goals as goal

pub returns : goal.returns
returns c = record { answer = rw (c.checkpoints_part.ensures.answer, c.events_part.ensures.answer) (parts_long _ c.requires.0 _ c.requires.1) }
