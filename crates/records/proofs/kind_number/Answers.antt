-- `records::kind_number` meets its contract: the number of a kind is one more than its column (`column_number`). Assumes nothing.
use mathlib.Core.Path.{◌≡◌}
use Prim.Native.Nat.{◌+◌}
use native.Mathlib.Omega.{arith}
use Rattle.records.specs.Kind.{kind_number}
use Rattle.records.proofs.EventKinds.{column_number, number_small}
use Rattle.records.proofs.kind_number.Goals as goal

number : (c : goal.After-column) → c.column.result + 1 ≡ kind_number c.args.kind
number c = rw c.column.ensures.answer (column_number c.args.kind)

pub overflow_add-result : goal.overflow_add-result
overflow_add-result c = omega (arith, number c, number_small c.args.kind)

pub overflow_cast-result : goal.overflow_cast-result
overflow_cast-result c = omega (arith, number c, number_small c.args.kind)

pub returns : goal.returns
returns c = record { answer = number c }
