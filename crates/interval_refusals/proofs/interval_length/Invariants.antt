use mathlib.Core.Path.{◌≡◌}
use Rattle.event_log.specs.Layout.{workers_of}
use Rattle.pack.specs.Packed.{start_of}
use Rattle.intervals.specs.Interval.{interval_workers}
use Rattle.interval_refusals.proofs.interval_length.Given as goal

abbrev pub invariant-loop-w : goal.invariant-loop-w
invariant-loop-w l = l.length ≡ start_of (interval_workers (workers_of l.log)) l.w
