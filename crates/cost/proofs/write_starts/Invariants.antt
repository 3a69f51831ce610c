use mathlib.Core.Path.{◌≡◌}
use mathlib.Core.List.{◌++◌}
use lib.ListN.{drop}
use Rattle.ranges.specs.Fold.{tabulate}
use Rattle.cost.specs.Words.{start_in}
use Rattle.cost.proofs.write_starts.Given as goal

abbrev pub invariant-loop-w : goal.invariant-loop-w
invariant-loop-w l = l.positions ≡ tabulate (start_in l.words) l.w ++ drop l.w l.initial.positions
