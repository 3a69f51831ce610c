-- `event_log::receives_once` meets its contract: a log that passes tests 1 to 6 has 8 bytes or more, so its form can be read, and
-- `records::receives_once` decides by it. Assumes nothing.
use Rattle.event_log.proofs.Readable.{readable}
use Rattle.event_log.proofs.receives_once.Goals as goal

pub returns : goal.returns
returns c = record { answer = rw (c.receives_once.ensures.answer, c.form_field.ensures.answer) }

pub form_field-requires : goal.form_field-requires
form_field-requires c = (readable _ c.requires).long
