use mathlib.Core.Path.{◌≡◌}
use Rattle.event_log.specs.Layout.{workers_of}
use Rattle.unit_table.specs.Table.{table_of}
use Rattle.sheet.specs.Sheet.{sheet_up_to}
use Rattle.sheet.proofs.add_list.Given as goal

abbrev pub invariant-loop-k : goal.invariant-loop-k
invariant-loop-k l = l.sheet ≡ sheet_up_to (table_of l.table) (workers_of l.log) l.list l.k
