-- `accept::events_refusal` meets its contract: where the one pass finds no fault none of 7 to 10 applies (`quick_none`); else each branch
-- is taken for the first of the four tests that fails. Assumes nothing.
use Rattle.std.proofs.Common.{rules, sym, ◌∙◌}
use Rattle.accept.specs.Refusal.{events_refusal}
use Rattle.accept.proofs.Quick.{quick_none}
use Rattle.accept.proofs.events_refusal.Goals as goal

pub returns-then-not-some_event : goal.returns-then-not-some_event
returns-then-not-some_event c = record { answer = sym (quick_none _ (sym c.some_event.ensures.answer ∙ c.if-not-some_event.true)) }

pub returns-then-some_record : goal.returns-then-some_record
unfolding events_refusal
returns-then-some_record c = search rules

pub returns-then-some_record-2 : goal.returns-then-some_record-2
unfolding events_refusal
returns-then-some_record-2 c = search rules

pub returns-then-some_record-3 : goal.returns-then-some_record-3
unfolding events_refusal
returns-then-some_record-3 c = search rules

pub returns-then-some_record-4 : goal.returns-then-some_record-4
unfolding events_refusal
returns-then-some_record-4 c = search rules

pub returns : goal.returns
unfolding events_refusal
returns c = search rules
