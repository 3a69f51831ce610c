use mathlib.Core.Path.{◌≡◌}
use Rattle.event_log.specs.Layout.{header_of, workers_of}
use Rattle.pack.specs.Packed.{start_of, entry_of}
use Rattle.pack.proofs.Writing.{Written}
use Rattle.pack.proofs.write_entries.Given as goal

abbrev pub invariant-loop-w : goal.invariant-loop-w
invariant-loop-w l = (l.start ≡ start_of (workers_of l.log) l.w) × Written (entry_of (workers_of l.log)) (header_of 0) l.initial.out l.n l.w l.out
