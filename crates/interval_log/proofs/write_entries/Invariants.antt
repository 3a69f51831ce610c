use mathlib.Core.Path.{◌≡◌}
use Rattle.event_log.specs.Layout.{header_of, workers_of}
use Rattle.pack.specs.Packed.{start_of, entry_of}
use Rattle.pack.proofs.Writing.{Written}
use Rattle.intervals.specs.Interval.{interval_workers}
use Rattle.interval_log.proofs.write_entries.Given as goal

abbrev pub invariant-loop-w : goal.invariant-loop-w
invariant-loop-w l =
    (l.start ≡ start_of (interval_workers (workers_of l.table.intervals.log.now)) l.w)
    × Written (entry_of (interval_workers (workers_of l.table.intervals.log.now))) (header_of 0) l.initial.out l.n l.w l.out
