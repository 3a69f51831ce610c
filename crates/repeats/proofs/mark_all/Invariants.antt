use Prim.Native.Nat.{◌+◌}
use Rattle.ranges.proofs.Any.{Sought}
use Rattle.event_log.specs.Layout.{workers_of}
use Rattle.repeats.specs.Inner.Table.{table_bits, Marks, worker_again_within}
use Rattle.repeats.proofs.mark_all.Given as goal

abbrev pub invariant-loop-w : goal.invariant-loop-w
invariant-loop-w l = Sought (worker_again_within (workers_of l.log) l.low (l.low + table_bits l.initial.table)) l.n l.w × Marks (workers_of l.log) l.low l.w 0 l.table
