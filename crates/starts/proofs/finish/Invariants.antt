use Rattle.event_log.specs.Layout.{workers_of}
use Rattle.starts.proofs.Finished.{Finishing}
use Rattle.starts.proofs.finish.Given as goal

abbrev pub invariant-loop-w : goal.invariant-loop-w
invariant-loop-w l = Finishing (workers_of l.log) l.initial.words l.words l.w
