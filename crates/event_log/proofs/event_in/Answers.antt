-- `event_log::event_in` meets its contract: the part of the log has 12 × count bytes, so record k, below count, lies within it. Assumes nothing.
use native.Mathlib.Omega.{arith}
use Rattle.event_log.proofs.Read.{section_length}
use Rattle.event_log.proofs.event_in.Goals as goal

pub event_record-requires : goal.event_record-requires
event_record-requires c = rw (c.section_part.ensures.answer, section_length _ _ _ c.requires.0) (omega arith)

pub returns : goal.returns
returns c = record { answer = rw c.section_part.ensures.answer at c.event_record.ensures.answer }
