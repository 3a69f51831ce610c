-- `event_log::event_count` meets its contract: the model's count is the number in the worker's entry, 0 past the last worker, and test 5 bounds
-- it (`count_field`). Assumes nothing.
use mathlib.Core.Path.{sym, ◌∙◌}
use native.Mathlib.Omega.{arith}
use Rattle.event_log.proofs.Read.{count_field}
use Rattle.event_log.proofs.event_count.Goals as goal

pub returns : goal.returns
returns c = let law = count_field _ c.requires c.args.w in record { answer = c.entry_or_zero.ensures.answer ∙ sym law.0; few = omega (arith, c.entry_or_zero.ensures.answer) }
