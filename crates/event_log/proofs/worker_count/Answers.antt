-- `event_log::worker_count` meets its contract: the model has as many workers as the header's size field says (`size_read`), and test 3 keeps
-- that at 64 or fewer. Assumes nothing.
use mathlib.Core.Path.{sym, ◌∙◌}
use Rattle.event_log.proofs.Readable.{readable}
use Rattle.event_log.proofs.Read.{size_read, workers_few}
use Rattle.event_log.proofs.worker_count.Goals as goal

pub size_field-requires : goal.size_field-requires
size_field-requires c = (readable _ c.requires).long

pub returns : goal.returns
returns c = record { answer = c.size_field.ensures.answer ∙ sym (size_read _); few = rw (c.size_field.ensures.answer, ← size_read _) (workers_few _ c.requires) }
