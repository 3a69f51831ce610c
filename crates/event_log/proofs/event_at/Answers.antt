-- `event_log::event_at` meets its contract: past the last worker the model has no event (`event_outside`), and any other worker is one that
-- `worker_event` reads. Assumes nothing.
use mathlib.Core.Path.{sym, ◌∙◌}
use Rattle.event_log.proofs.Read.{event_outside}
use Rattle.event_log.proofs.event_at.Goals as goal

pub returns-then-worker_count-w : goal.returns-then-worker_count-w
returns-then-worker_count-w c = record { answer = c.no_event.ensures.answer ∙ sym (event_outside _ _ _ (rw c.worker_count.ensures.answer at c.if-worker_count-w.true)) }
