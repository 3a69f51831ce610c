use Rattle.event_log.specs.Layout.{workers_of}
use Rattle.interval_log.proofs.Kept.{Checkpoints}
use Rattle.interval_log.proofs.write_checkpoints.Given as goal

abbrev pub invariant-loop-k : goal.invariant-loop-k
invariant-loop-k l = Checkpoints (workers_of l.table.intervals.log.now) l.w l.at l.initial.out l.k l.place l.out
