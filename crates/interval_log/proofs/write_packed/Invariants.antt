use Prim.Native.Nat.{◌+◌, ◌-◌, ◌≤◌}
use Rattle.interval_blocks.specs.Inner.Blocks.{most_bits}
use Rattle.interval_log.proofs.write_packed.Given as goal

abbrev pub invariant-loop-b : goal.invariant-loop-b
invariant-loop-b l = l.b ≤ most_bits

-- the sizes that are left
abbrev pub decreases-loop-b : goal.decreases-loop-b
decreases-loop-b l = most_bits + 1 - l.b
