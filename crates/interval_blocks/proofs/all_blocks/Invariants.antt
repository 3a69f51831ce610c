use mathlib.Core.Path.{◌≡◌}
use Rattle.event_log.specs.Layout.{workers_of}
use Rattle.interval_blocks.specs.Inner.Blocks.{first_block}
use Rattle.interval_blocks.proofs.all_blocks.Given as goal

abbrev pub invariant-loop-w : goal.invariant-loop-w
invariant-loop-w l = l.blocks ≡ first_block (workers_of l.log) l.b l.w
