use Rattle.unit_table.specs.Table.{table_of}
use Rattle.cost.proofs.Counted.{CountedFrom}
use Rattle.cost.proofs.worker_units.Given as goal

abbrev pub invariant-loop-k : goal.invariant-loop-k
invariant-loop-k l = CountedFrom (table_of l.table) l.log l.words l.w l.k l.counts
