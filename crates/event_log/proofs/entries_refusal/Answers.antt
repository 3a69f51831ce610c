-- `event_log::entries_refusal` meets its contract: each `any` asks the entries in turn for its test (`any_in_range`). Assumes nothing.
use Rattle.std.proofs.Common.{rules, refl}
use Rattle.std.proofs.lemmas.Iterator.{YieldsList-from_range}
use Rattle.ranges.proofs.Chains.{any_in_range}
use Rattle.event_log.specs.Header.{entry_fault, some_entry, entries_refusal}
use Rattle.event_log.proofs.entries_refusal.Goals as goal

pub returns-then-any : goal.returns-then-any
unfolding entry_fault some_entry entries_refusal
returns-then-any c =
    let five = any_in_range (entry_fault 5 c.args.log.now) _ _ _ c.any.ensures.ran (YieldsList-from_range 0 _ _ refl refl) c.size_field-n.ensures.answer (λ x b q k. search rules) in
    record { answer = rw (← five, c.if-any.true) }

pub returns-then-any-2 : goal.returns-then-any-2
unfolding entry_fault some_entry entries_refusal
returns-then-any-2 c =
    let five = any_in_range (entry_fault 5 c.args.log.now) _ _ _ c.any.ensures.ran (YieldsList-from_range 0 _ _ refl refl) c.size_field-n.ensures.answer (λ x b q k. search rules) in
    let six = any_in_range (entry_fault 6 c.args.log.now) _ _ _ c.any-2.ensures.ran (YieldsList-from_range 0 _ _ refl refl) c.size_field-n.ensures.answer (λ x b q k. search rules) in
    record { answer = rw (← five, c.if-any.false, ← six, c.if-any-2.true) }

pub returns : goal.returns
unfolding entry_fault some_entry entries_refusal
returns c =
    let five = any_in_range (entry_fault 5 c.args.log.now) _ _ _ c.any.ensures.ran (YieldsList-from_range 0 _ _ refl refl) c.size_field-n.ensures.answer (λ x b q k. search rules) in
    let six = any_in_range (entry_fault 6 c.args.log.now) _ _ _ c.any-2.ensures.ran (YieldsList-from_range 0 _ _ refl refl) c.size_field-n.ensures.answer (λ x b q k. search rules) in
    record { answer = rw (← five, c.if-any.false, ← six, c.if-any-2.false) }
