-- `plan_text::put` meets its contract: where the place is not within the buffer, that already holds all of the text that it has room for
-- (`adds_none`); else as many bytes as there is room for are put behind the text (`adds_part`). Assumes nothing.
use Rattle.plan_text.proofs.Buffer.{adds_none, adds_part}
use Rattle.plan_text.proofs.put.Goals as goal

pub returns-then-out-at : goal.returns-then-out-at
returns-then-out-at c = record { text = adds_none _ _ _ c.if-out-at.true }

pub returns : goal.returns
returns c = record { text = rw c.copy_from_slice.ensures.after (adds_part _ _ _ _ c.if-out-at.false c.min-count.ensures) }
