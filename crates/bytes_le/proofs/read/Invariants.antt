use Rattle.std.proofs.Common.{◌≡◌}
use Rattle.bytes_le.specs.Little.{le}
use Rattle.bytes_le.proofs.read.Given as goal

abbrev pub invariant-loop-k : goal.invariant-loop-k
invariant-loop-k g l = l.number ≡ le l.k l.s l.at
