-- `unit_table::units_for` meets its contract: the word read is at 3 × role + column, below 12 since the role is below 4 and the column
-- below 3. Assumes nothing.
use Rattle.unit_table.specs.Table.{table_of}
use Rattle.unit_table.proofs.units_for.Goals as goal

pub returns : goal.returns
unfolding table_of
returns c = record { answer = rw c.column-column.ensures.answer }
