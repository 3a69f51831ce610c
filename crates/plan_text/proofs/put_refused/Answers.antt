-- `plan_text::put_refused` meets its contract: the name, the number and the line end are put one behind the other, from the empty text on
-- (`holds_none`). Assumes nothing.
use Rattle.plan_text.specs.Text.{refused_text}
use Rattle.plan_text.proofs.Buffer.{holds_none}
use Rattle.plan_text.proofs.put_refused.Goals as goal

pub returns : goal.returns
unfolding refused_text
returns c = record { text = c.put_end.ensures.text _ _ (c.put_word-next.ensures.text _ _ (holds_none _)) }
