-- `plan_text::put_process` meets its contract: number and role of the worker, then its cut, upper line, start and identifier as read at its
-- places, are put one behind the other, in the order of `process_line`. Assumes nothing.
use Rattle.plan_text.specs.Text.{process_line}
use Rattle.plan_text.proofs.put_process.Goals as goal

pub returns : goal.returns
unfolding process_line
returns c = record {
  text = λ lent text h.
      rw (← c.identifier_in-identifier.ensures.answer, ← c.start_in-start.ensures.answer, ← c.cut_in-cut.ensures.answer)
      (c.put_words.ensures.text lent _ (c.put_word-b.ensures.text lent _ (c.put_number-a.ensures.text lent text h)));
}
