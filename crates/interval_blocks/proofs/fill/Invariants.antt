use Rattle.event_log.specs.Layout.{workers_of}
use Rattle.interval_blocks.proofs.BlockLaws.{Filled}
use Rattle.interval_blocks.proofs.fill.Given as goal

abbrev pub invariant-loop-w : goal.invariant-loop-w
invariant-loop-w l = Filled (workers_of l.log) l.b l.w l.first l.firsts l.table
