use Rattle.event_log.specs.Layout.{workers_of}
use Rattle.event_log.specs.Model.{event_of}
use Rattle.upper_line.proofs.Raising.{Moving, left}
use Rattle.upper_line.proofs.+raise.Given as goal

abbrev pub invariant-loop-line : goal.invariant-loop-line
invariant-loop-line l = Moving (workers_of l.log) l.i l.event l.w l.target l.initial.line l.line

abbrev pub decreases-loop-line : goal.decreases-loop-line
decreases-loop-line l = left (workers_of l.log) l.line

-- the target's stamp
abbrev pub decreases-raise : goal.decreases-raise
decreases-raise l = (event_of (workers_of l.log.now) l.w l.target).stamp
