-- `plan::main` meets its contract: `write_text` gives a number no larger than its buffer's length, so the bytes that are printed lie
-- within the buffer (`holds_within`). Assumes nothing.
use mathlib.Core.Path.{sym}
use lib.Seq.{length-take-le}
use Rattle.plan_text.proofs.Buffer.{holds_within}
use Rattle.plan.proofs.main.Goals as goal

pub slice_bounds-text-end : goal.slice_bounds-text-end
slice_bounds-text-end c = (holds_within _ _ _ _ c.write_text-k.ensures.text).1

pub slice_bounds-write_all-end : goal.slice_bounds-write_all-end
slice_bounds-write_all-end c = sym (length-take-le _ _ (holds_within _ _ _ _ c.write_text-k.ensures.text).1)
