-- `event_log::records_part` meets its contract: number j of the worker's entry is the count and number j + 1 the offset, and the section that
-- they give lies within the log as required. Assumes nothing.
use mathlib.Core.Path.{◌∙◌}
use native.Mathlib.Omega.{arith}
use Rattle.event_log.proofs.records_part.Goals as goal

pub entry-count-requires : goal.entry-count-requires
entry-count-requires c = (omega (arith, c.requires.0), c.requires.1)

pub overflow_add-j : goal.overflow_add-j
overflow_add-j c = omega (arith, c.requires.0)

pub entry-start-requires : goal.entry-start-requires
entry-start-requires c = (omega (arith, c.requires.0), c.requires.1)

pub section_part-requires : goal.section_part-requires
section_part-requires c = rw (c.entry-start.ensures.answer, c.entry-count.ensures.answer) c.requires.2

pub returns : goal.returns
returns c = record { answer = c.section_part.ensures.answer ∙ rw (c.entry-start.ensures.answer, c.entry-count.ensures.answer) }
