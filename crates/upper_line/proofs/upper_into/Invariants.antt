use Rattle.event_log.specs.Layout.{workers_of}
use Rattle.upper_line.proofs.Raising.{Lined}
use Rattle.upper_line.proofs.upper_into.Given as goal

abbrev pub invariant-loop-w : goal.invariant-loop-w
invariant-loop-w l = Lined (workers_of l.log) l.i l.event l.n l.line l.w
