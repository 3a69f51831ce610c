-- `repeats::mark_event` meets its contract: where `place_of` gives a number before `low` or past the table, no bit is marked or found; else
-- `mark` reads its bit and, for a receive, sets it. Assumes nothing.
use Rattle.std.proofs.Common.{rules}
use Rattle.repeats.specs.Inner.Table.{has_bit, table_after, found_marked}
use Rattle.repeats.proofs.mark_event.Goals as goal

pub returns-then-place-low : goal.returns-then-place-low
unfolding found_marked table_after has_bit
returns-then-place-low c = search rules

pub returns : goal.returns
unfolding found_marked table_after has_bit
returns c = search rules
