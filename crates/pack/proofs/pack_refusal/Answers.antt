-- `pack::pack_refusal` meets its contract: the log's number is returned where it is not 0; where it is 0 the log can be read, and `or_else`
-- gives 26 and 25 of its packed length before `others`. Assumes nothing.
use mathlib.Core.Path.{sym, ◌∙◌}
use Rattle.lent.proofs.Lent.{or_else_first, or_else_second}
use Rattle.accept.proofs.Accepted.{accepted_layout}
use Rattle.pack.specs.Calls.{pack_refusal}
use Rattle.pack.proofs.pack_refusal.Goals as goal

pub returns-then-refusal-ne0 : goal.returns-then-refusal-ne0
unfolding pack_refusal
returns-then-refusal-ne0 c = record { answer = rw c.accept-refusal.ensures.answer (sym (or_else_first _ _ (rw c.accept-refusal.ensures.answer at c.if-refusal-ne0.true))) }

pub packed_length-requires : goal.packed_length-requires
packed_length-requires c = accepted_layout _ (rw c.accept-refusal.ensures.answer at c.if-refusal-ne0.false)

pub returns : goal.returns
unfolding pack_refusal
returns c = record {
  answer = c.or_else.ensures.answer ∙ rw (c.room_refusal.ensures.answer, c.packed_length.ensures.answer)
      (sym (or_else_second _ _ (rw c.accept-refusal.ensures.answer at c.if-refusal-ne0.false)));
}
