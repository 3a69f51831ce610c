-- `plan_text::put_four` meets its contract: each of the four numbers with its name, and then the line end, is put behind the text that the
-- call before it left, in the order of `four_numbers`. Assumes nothing.
use Rattle.plan_text.specs.Text.{four_numbers}
use Rattle.plan_text.proofs.put_four.Goals as goal

pub returns : goal.returns
unfolding four_numbers
returns c = record {
  text = λ lent text h.
      let one = c.put_number-one.ensures.text lent text h in
      let two = c.put_number-two.ensures.text lent _ one in
      let three = c.put_number-three.ensures.text lent _ two in
      let four = c.put_number-four.ensures.text lent _ three in
      c.put_end.ensures.text lent _ four;
}
