use Prim.Native.Nat.{◌+◌, ◌-◌, ◌≤◌}
use Rattle.event_log.specs.Layout.{workers_of}
use Rattle.event_log.specs.Model.{event_of}
use Rattle.lower_cut.specs.Inner.Turns.{turns_at_once}
use Rattle.lower_cut.proofs.Loop.{Going}
use Rattle.lower_cut.proofs.figure2.+visit.Given as goal

abbrev pub invariant-loop-v : goal.invariant-loop-v
invariant-loop-v l =
    Going (workers_of l.log) l.i l.first l.event l.fn.cut l.fn.rows l.visits l.n l.below (record { cut = l.cut; visits = l.total }) l.rows l.workers l.events l.stale turns_at_once l.v

abbrev pub decreases-loop-v : goal.decreases-loop-v
decreases-loop-v l = l.n - l.v

abbrev pub invariant-loop-j : goal.invariant-loop-j
invariant-loop-j l =
    Going (workers_of l.log) l.i l.first l.event l.fn.cut l.fn.rows l.visits l.n l.below (record { cut = l.cut; visits = l.total }) l.rows l.workers l.events l.stale l.j l.v
    × (l.initial.v + l.j ≤ l.v)

-- the visited event's stamp
abbrev pub decreases-visit : goal.decreases-visit
decreases-visit l = (event_of (workers_of l.log.now) l.i l.event).stamp
