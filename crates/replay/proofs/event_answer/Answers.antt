-- `replay::event_answer` meets its contract: a receive without its data awaits a send above the sender's position (22), else has lost one
-- up to the sender's start (23); any other event fails both tests (`compared_waits`, `compared_come`). Assumes nothing.
use mathlib.Core.Path.{sym, ◌∙◌}
use mathlib.Core.Bool.{true, false}
use Rattle.replay.proofs.Compared.{compared_waits, compared_come}
use Rattle.replay.proofs.event_answer.Goals as goal

pub returns-then-positions-peer : goal.returns-then-positions-peer
returns-then-positions-peer c = record { answer = λ starts same. sym (compared_waits starts _ _ (rw c.unlogged_send.ensures.answer at c.if-positions-peer.true)) }

pub returns-then-loses_send : goal.returns-then-loses_send
returns-then-loses_send c = record {
  answer = λ starts same. let come = rw c.unlogged_send.ensures.answer at c.if-positions-peer.false in
      sym (compared_come starts _ _ come true (rw (same, ← c.start_in.ensures.answer) (sym c.loses_send.ensures.answer ∙ c.if-loses_send.true)));
}

pub returns : goal.returns
returns c = record {
  answer = λ starts same. let come = rw c.unlogged_send.ensures.answer at c.if-positions-peer.false in
      sym (compared_come starts _ _ come false (rw (same, ← c.start_in.ensures.answer) (sym c.loses_send.ensures.answer ∙ c.if-loses_send.false)));
}
