use mathlib.Core.Path.{◌≡◌}
use lib.ListN.{length}
use Rattle.lower_cut.proofs.Copied.{Copying}
use Rattle.lower_cut.proofs.figure2.next_turns.Given as goal

abbrev pub invariant-loop-w : goal.invariant-loop-w
invariant-loop-w l = (l.n ≡ length l.row) × Copying l.cut l.row l.v l.workers l.events l.j l.w
