-- `plan_text::write_decimal` meets its contract: what the bytes from a place on lack of the number in decimal is at first all of it
-- (`lacks_all`), after each turn a digit less (`lacks_fewer`), and nothing once the first digit is put (`lacks_none`). Assumes nothing.
use native.Mathlib.Omega.{arith}
use lib.ListN.{length-set}
use Rattle.plan_text.proofs.Decimal.{lacks_all, lacks_fewer, lacks_none}
use Rattle.plan_text.proofs.write_decimal.Goals as goal

pub loop-from-init : goal.loop-from-init
loop-from-init c = (omega arith, omega arith, lacks_all _ _ (omega arith) (omega arith))

pub returns-then-rest-eq0-clause-text : goal.returns-then-rest-eq0-clause-text
returns-then-rest-eq0-clause-text c = let kept = c.loop-from.invariant in lacks_none _ _ _ _ (omega arith) (omega arith) kept.2

pub loop-from-preserved : goal.loop-from-preserved
loop-from-preserved c =
    let kept = c.loop-from.invariant in
    (omega arith, simp length-set kept.1, lacks_fewer _ _ _ _ (omega arith) (omega arith) kept.2)
