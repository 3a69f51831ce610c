-- `sheet::sheet_refusal` meets its contract: the number of `list_refusal` is returned where it is not 0; where it is 0 the log is accepted
-- (`list_ok`), and `or_else` gives 14, then 15, then 27. Assumes nothing.
use borrow.Author.Tests.{eq-eqb, ne_eqb}
use Rattle.lent.specs.Lent.{or_else}
use Rattle.accept.proofs.Accepted.{accepted_layout}
use Rattle.breakpoints.proofs.Allowed.{list_ok}
use Rattle.sheet.specs.Calls.{sheet_refusal}
use Rattle.sheet.proofs.sheet_refusal.Goals as goal

pub returns-then-refusal-ne0 : goal.returns-then-refusal-ne0
unfolding sheet_refusal or_else
returns-then-refusal-ne0 c = record { answer = rw (← c.list_refusal-refusal.ensures.answer, ne_eqb _ _ c.if-refusal-ne0.true) }

pub worker_count-n-requires : goal.worker_count-n-requires
worker_count-n-requires c = accepted_layout _ (list_ok c.list_refusal-refusal.ensures.answer c.if-refusal-ne0.false).accepted

pub returns : goal.returns
unfolding sheet_refusal or_else
returns c = record {
  answer = rw (
    ← c.list_refusal-refusal.ensures.answer,
    eq-eqb _ _ c.if-refusal-ne0.false,
    ← c.worker_count-n.ensures.answer,
    ← c.words_refusal-short.ensures.answer,
    ← c.short_scratch-room.ensures.answer,
    ← c.table_refusal-loading.ensures.answer,
    ← c.or_else.ensures.answer,
  )
      c.or_else-2.ensures.answer;
}
