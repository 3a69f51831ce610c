-- `event_log::role_of` meets its contract: the model's role is the number in the worker's entry, 0 past the last worker, and test 5 bounds it
-- (`role_field_lem`). Assumes nothing.
use mathlib.Core.Path.{sym, ◌∙◌}
use native.Mathlib.Omega.{arith}
use Rattle.event_log.proofs.Read.{role_field_lem}
use Rattle.event_log.proofs.role_of.Goals as goal

pub returns : goal.returns
returns c = let law = role_field_lem _ c.requires c.args.w in record { answer = c.entry_or_zero.ensures.answer ∙ sym law.0; small = omega (arith, c.entry_or_zero.ensures.answer) }
