use Rattle.event_log.specs.Layout.{workers_of}
use Rattle.interval_log.proofs.Kept.{Receives}
use Rattle.interval_log.proofs.write_events.Given as goal

abbrev pub invariant-loop-k : goal.invariant-loop-k
invariant-loop-k l = Receives (workers_of l.table.intervals.log.now) l.w l.at l.initial.out l.k l.place l.out
