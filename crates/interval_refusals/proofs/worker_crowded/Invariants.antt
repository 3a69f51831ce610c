-- before each turn no two of the checkpoints passed fall into one interval
use mathlib.Core.Path.{◌≡◌}
use mathlib.Core.Bool.{false}
use Rattle.ranges.specs.Fold.{any_below}
use Rattle.event_log.specs.Layout.{workers_of}
use Rattle.interval_refusals.specs.Calls.{falls_together}
use Rattle.interval_refusals.proofs.Apart.{Apart}
use Rattle.interval_refusals.proofs.worker_crowded.Given as goal

abbrev pub invariant-loop-k : goal.invariant-loop-k
invariant-loop-k l = (any_below (falls_together (workers_of l.log) l.w) l.k ≡ false) × Apart (workers_of l.log) l.w l.k l.from l.number l.free
