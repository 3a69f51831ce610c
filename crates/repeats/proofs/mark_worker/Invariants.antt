use Prim.Native.Nat.{◌+◌}
use Rattle.ranges.proofs.Any.{Sought}
use Rattle.event_log.specs.Layout.{workers_of}
use Rattle.repeats.specs.Inner.Table.{table_bits, Marks, again_within}
use Rattle.repeats.proofs.mark_worker.Given as goal

abbrev pub invariant-loop-k : goal.invariant-loop-k
invariant-loop-k l = Sought (again_within (workers_of l.log) l.low (l.low + table_bits l.initial.table) l.w) l.events l.k × Marks (workers_of l.log) l.low l.w l.k l.table
