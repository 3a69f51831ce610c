use mathlib.Core.Path.{◌≡◌}
use lib.ListN.{take}
use Rattle.lent.specs.Inner.Overwrite.{overwrite}
use Rattle.lent.proofs.copy_bytes.Given as goal

abbrev pub invariant-loop-k : goal.invariant-loop-k
invariant-loop-k l = l.to ≡ overwrite l.at (take l.k l.from) l.initial.to
