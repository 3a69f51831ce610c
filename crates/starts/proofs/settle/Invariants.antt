use Rattle.ranges.specs.Fold.{sum_below}
use Rattle.event_log.specs.Layout.{workers_of}
use Rattle.lent.specs.Lent.{at}
use Rattle.starts.specs.Inner.Rollback.{RollingBack}
use Rattle.cost.specs.Words.{cuts_in}
use Rattle.starts.proofs.settle.Given as goal

abbrev pub invariant-loop-w : goal.invariant-loop-w
invariant-loop-w l = RollingBack (workers_of l.log) (cuts_in (workers_of l.log) l.initial.words) l.words l.looked

abbrev pub decreases-loop-w : goal.decreases-loop-w
decreases-loop-w l = sum_below (at l.looked) l.n
