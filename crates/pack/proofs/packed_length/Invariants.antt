use mathlib.Core.Path.{◌≡◌}
use Prim.Native.Nat.{◌≤◌}
use Rattle.event_log.specs.Layout.{workers_of}
use Rattle.pack.specs.Packed.{start_of}
use Rattle.pack.proofs.packed_length.Given as goal

abbrev pub invariant-loop-w : goal.invariant-loop-w
invariant-loop-w l = (l.w ≤ l.n) × (l.at ≡ start_of (workers_of l.log) l.w)
