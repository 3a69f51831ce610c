use Rattle.std.proofs.Common.{◌≡◌}
use Rattle.lent.specs.Inner.Overwrite.{overwrite}
use Rattle.bytes_le.specs.Little.{bytes_of}
use Rattle.bytes_le.proofs.write.Given as goal

abbrev pub invariant-loop-k : goal.invariant-loop-k
invariant-loop-k g l = l.out ≡ overwrite l.at (bytes_of l.k l.x) l.fn.out
