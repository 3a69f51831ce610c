use mathlib.Core.Path.{◌≡◌}
use Prim.Native.Nat.{◌≤◌}
use lib.ListN.{length}
use Rattle.plan_text.specs.Text.{decimal}
use Rattle.plan_text.proofs.Decimal.{Lacks}
use Rattle.plan_text.proofs.write_decimal.Given as goal

abbrev pub invariant-loop-from : goal.invariant-loop-from
invariant-loop-from l = (l.from ≤ 20) × (length l.digits ≡ 20) × Lacks l.digits l.from l.rest (decimal l.number)
