use mathlib.Core.Path.{◌≡◌}
use mathlib.Core.Bool.{false}
use mathlib.Core.List.{◌++◌}
use lib.ListN.{drop}
use Rattle.ranges.specs.Fold.{any_below, tabulate}
use Rattle.event_log.specs.Layout.{workers_of}
use Rattle.covering.specs.Covering.{without_set, set_index}
use Rattle.covering.proofs.some_without_set.Given as goal

abbrev pub invariant-loop-w : goal.invariant-loop-w
invariant-loop-w l =
    (any_below (without_set (workers_of l.log) l.identifier) l.w-counter ≡ false)
    × (l.indices ≡ tabulate (set_index (workers_of l.log) l.identifier) l.w-counter ++ drop l.w-counter l.initial.indices)
