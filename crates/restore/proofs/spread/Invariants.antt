use Rattle.restore.proofs.Spreading.{Spread}
use Rattle.restore.proofs.spread.Given as goal

abbrev pub invariant-loop-w : goal.invariant-loop-w
invariant-loop-w l = Spread l.initial.words l.words l.n l.w
