use mathlib.Core.Path.{◌≡◌}
use mathlib.Core.List.{◌++◌}
use lib.ListN.{drop}
use Rattle.ranges.specs.Fold.{tabulate}
use Rattle.event_log.specs.Layout.{workers_of}
use Rattle.unit_table.specs.Table.{table_of}
use Rattle.sheet.specs.Inner.Adding.{added_at}
use Rattle.sheet.proofs.add_plan.Given as goal

abbrev pub invariant-loop-j : goal.invariant-loop-j
invariant-loop-j l = l.sheet ≡ tabulate (added_at (table_of l.table) (workers_of l.log) l.words l.initial.sheet) l.j ++ drop l.j l.initial.sheet
