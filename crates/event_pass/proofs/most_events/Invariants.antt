use mathlib.Core.Path.{◌≡◌}
use Rattle.ranges.specs.Fold.{max_below}
use Rattle.event_log.specs.Layout.{workers_of}
use Rattle.event_log.specs.Model.{event_count}
use Rattle.event_pass.proofs.most_events.Given as goal

abbrev pub invariant-loop-w : goal.invariant-loop-w
invariant-loop-w l = l.most ≡ max_below (event_count (workers_of l.log)) l.w
