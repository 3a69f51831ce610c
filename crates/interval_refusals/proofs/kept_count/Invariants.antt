use mathlib.Core.Path.{◌≡◌}
use Rattle.ranges.specs.Fold.{sum_below}
use Rattle.event_log.specs.Layout.{workers_of}
use Rattle.intervals.proofs.IntervalModel.{kept_at}
use Rattle.interval_refusals.proofs.kept_count.Given as goal

abbrev pub invariant-loop-k : goal.invariant-loop-k
invariant-loop-k l = l.kept ≡ sum_below (kept_at (workers_of l.log) l.w) l.k
