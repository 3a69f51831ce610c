use mathlib.Core.Path.{◌≡◌}
use mathlib.Core.List.{◌++◌}
use lib.ListN.{drop}
use Rattle.ranges.specs.Fold.{tabulate}
use Rattle.lent.specs.Lent.{at}
use Rattle.lent.proofs.copy.Given as goal

abbrev pub invariant-loop-w : goal.invariant-loop-w
invariant-loop-w l = l.to ≡ tabulate (at l.from) l.w ++ drop l.w l.initial.to
