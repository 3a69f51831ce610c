use mathlib.Core.Path.{◌≡◌}
use lib.ListN.{length}
use Rattle.ranges.proofs.Any.{Sought}
use Rattle.event_log.specs.Limits.{max_workers}
use Rattle.event_log.specs.Layout.{workers_of}
use Rattle.repeats.specs.Inner.Again.{again}
use Rattle.repeats.proofs.Again.{Rising}
use Rattle.repeats.proofs.worker_falls.Given as goal

abbrev pub invariant-loop-k : goal.invariant-loop-k
invariant-loop-k l = Rising (workers_of l.log) l.w l.k l.row × Sought (again (workers_of l.log) l.w) l.events l.k × (length l.row ≡ max_workers)
