use Rattle.ranges.proofs.Any.{Sought}
use Rattle.event_log.specs.Layout.{workers_of}
use Rattle.event_pass.specs.Inner.Blocks.{listed_fault}
use Rattle.event_pass.proofs.listed_fault.Given as goal

abbrev pub invariant-loop-j : goal.invariant-loop-j
invariant-loop-j l = Sought (listed_fault (workers_of l.log) l.w l.list) l.count l.j
