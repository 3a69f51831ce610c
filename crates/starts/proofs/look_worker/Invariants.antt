use Rattle.event_log.specs.Layout.{workers_of}
use Rattle.cost.specs.Words.{cuts_in}
use Rattle.starts.proofs.Settling.{Looking}
use Rattle.starts.proofs.look_worker.Given as goal

abbrev pub invariant-loop-x : goal.invariant-loop-x
invariant-loop-x l = Looking (workers_of l.log) (cuts_in (workers_of l.log) l.initial.words) l.initial.words l.looked l.w l.start l.words l.x

abbrev pub decreases-loop-x : goal.decreases-loop-x
decreases-loop-x l = l.x
