-- `plan_text::put_breakpoint` meets its contract: name and worker, a space and the event, and the line end are put one behind the other,
-- from the empty text on (`holds_none`), which is the first line. Assumes nothing.
use Rattle.plan_text.specs.Text.{breakpoint_line}
use Rattle.plan_text.proofs.Buffer.{holds_none}
use Rattle.plan_text.proofs.put_breakpoint.Goals as goal

pub returns : goal.returns
unfolding breakpoint_line
returns c = record { text = c.put_end.ensures.text _ _ (c.put_word-b.ensures.text _ _ (c.put_word-a.ensures.text _ _ (holds_none _))) }
