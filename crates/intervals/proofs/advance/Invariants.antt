use mathlib.Core.Path.{◌≡◌}
use Rattle.event_log.specs.Layout.{workers_of}
use Rattle.intervals.specs.Interval.{index, interval_at}
use Rattle.intervals.proofs.advance.Given as goal

abbrev pub invariant-loop-k : goal.invariant-loop-k
invariant-loop-k l = l.number ≡ (interval_at (workers_of l.log) l.w (index l.k)).0
