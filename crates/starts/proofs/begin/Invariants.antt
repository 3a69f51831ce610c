use Rattle.event_log.specs.Layout.{workers_of}
use Rattle.starts.proofs.Begun.{Begun}
use Rattle.starts.proofs.begin.Given as goal

abbrev pub invariant-loop-w : goal.invariant-loop-w
invariant-loop-w l = Begun (workers_of l.log) l.initial.words l.words l.looked l.w
