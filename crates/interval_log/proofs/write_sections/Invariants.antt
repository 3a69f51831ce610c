use mathlib.Core.Path.{◌≡◌}
use Rattle.event_log.specs.Model.{worker_count}
use Rattle.event_log.specs.Layout.{header_of, workers_of}
use Rattle.pack.specs.Packed.{start_of, sections_of}
use Rattle.pack.proofs.Writing.{Written}
use Rattle.intervals.specs.Interval.{interval_workers}
use Rattle.interval_log.proofs.write_sections.Given as goal

abbrev pub invariant-loop-w : goal.invariant-loop-w
invariant-loop-w l =
    (l.at ≡ start_of (interval_workers (workers_of l.table.intervals.log.now)) l.w)
    × Written (sections_of (interval_workers (workers_of l.table.intervals.log.now))) (header_of (worker_count (workers_of l.table.intervals.log.now))) l.initial.out l.n l.w l.out
