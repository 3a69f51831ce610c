use mathlib.Core.Path.{◌≡◌}
use Prim.Native.Nat.{ℕ, ◌<◌}
use Rattle.lent.specs.Lent.{at}
use Rattle.event_log.specs.Layout.{workers_of}
use Rattle.repeats.specs.Inner.Table.{first_place}
use Rattle.repeats.proofs.number_events.Given as goal

abbrev pub invariant-loop-w : goal.invariant-loop-w
invariant-loop-w l = (l.next ≡ first_place (workers_of l.log) l.w) × ((v : ℕ) → v < l.w → at l.firsts v ≡ first_place (workers_of l.log) v)
