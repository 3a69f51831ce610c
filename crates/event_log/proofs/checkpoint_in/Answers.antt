-- `event_log::checkpoint_in` meets its contract: the part of the log has 8 × count bytes, so record k, below count, lies within it, and it is
-- read in the header's form. Assumes nothing.
use native.Mathlib.Omega.{arith}
use Rattle.event_log.proofs.Read.{section_length}
use Rattle.event_log.proofs.checkpoint_in.Goals as goal

pub checkpoint_record-requires : goal.checkpoint_record-requires
checkpoint_record-requires c = rw (c.section_part.ensures.answer, section_length _ _ _ c.requires.1) (omega arith)

pub returns : goal.returns
returns c = record { answer = rw (c.form_field.ensures.answer, c.section_part.ensures.answer) at c.checkpoint_record.ensures.answer }
