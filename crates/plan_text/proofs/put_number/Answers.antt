-- `plan_text::put_number` meets its contract: the name is put, then the digits from the place that `write_decimal` gives to the end, which
-- spell the number. Assumes nothing.
use Prim.Native.Nat.{◌-◌, ◌≤◌}
use native.Mathlib.Omega.{arith}
use lib.ListN.{length, drop, length-drop}
use lib.Seq.{take_all}
use Rattle.plan_text.specs.Text.{with_number}
use Rattle.plan_text.proofs.put_number.Goals as goal

pub returns : goal.returns
unfolding with_number
returns c = record {
  text = λ lent text h.
      let from = c.write_decimal-from.result in
      let digits = c.write_decimal-from.new.digits in
      let all : length (drop from digits) ≤ 20 - from = omega (arith, length-drop from digits, c.write_decimal-from.array_long) in
      rw (← c.write_decimal-from.ensures.text, ← take_all (20 - from) (drop from digits) all) (c.put.ensures.text lent _ (c.put-next.ensures.text lent text h));
}
