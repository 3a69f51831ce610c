use mathlib.Core.Path.{◌≡◌}
use mathlib.Core.List.{◌++◌}
use lib.ListN.{drop}
use Rattle.ranges.specs.Fold.{tabulate}
use Rattle.unit_table.proofs.BuiltIn.{word_at}
use Rattle.unit_table.proofs.write_built_in.Given as goal

abbrev pub invariant-loop-j : goal.invariant-loop-j
invariant-loop-j l = l.table ≡ tabulate word_at l.j ++ drop l.j l.initial.table
