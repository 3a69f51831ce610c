-- `unit_table::table_refusal` meets its contract: the branch is taken where there are not 12 words or some word is outside 1 to 1,000; else
-- `table_refusal` is 0. Assumes nothing.
use Rattle.std.proofs.Common.{arith}
use Rattle.std.proofs.lemmas.Grind.{common_steps}
use Rattle.unit_table.specs.Table.{table_refusal}
use Rattle.unit_table.proofs.table_refusal.Goals as goal

pub returns-then-table-ne-TABLE_WORDS : goal.returns-then-table-ne-TABLE_WORDS
unfolding table_refusal
returns-then-table-ne-TABLE_WORDS c = grind (arith, common_steps)

pub returns : goal.returns
unfolding table_refusal
returns c = grind (arith, common_steps)
