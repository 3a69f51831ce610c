-- `event_log::checkpoint_at` meets its contract: number 0 and a number past the count give the initial state; any other is record c - 1 of the
-- worker's section, which lies within the log by tests 1 to 6. Assumes nothing.
use mathlib.Core.Path.{sym, ◌∙◌}
use native.Mathlib.Omega.{arith}
use Rattle.event_log.proofs.Readable.{readable}
use Rattle.event_log.proofs.Read.{checkpoint_initial, checkpoint_past, checkpoint_entry, checkpoints_within, checkpoint_at_lem}
use Rattle.std.proofs.Common.{rules}
use Rattle.event_log.proofs.checkpoint_at.Goals as goal

pub returns-then-c-eq0 : goal.returns-then-c-eq0
returns-then-c-eq0 c = record { answer = c.initial.ensures.answer ∙ sym (rw c.if-c-eq0.true (checkpoint_initial _ _)) }

pub returns-then-count-c : goal.returns-then-count-c
returns-then-count-c c = record { answer = c.initial-then-count-c.ensures.answer ∙ sym (checkpoint_past _ _ _ (rw c.checkpoint_count-count.ensures.answer at c.if-count-c.true)) }

pub entry-start-requires : goal.entry-start-requires
entry-start-requires c = (search rules, checkpoint_entry _ c.requires _ _ _ c.if-c-eq0.false c.checkpoint_count-count.ensures.answer c.if-count-c.false)

pub checkpoint_in-requires : goal.checkpoint_in-requires
checkpoint_in-requires c = let some = c.if-c-eq0.false in
    let size = c.checkpoint_count-count.ensures.answer in
    let layout = c.requires in
    ((readable _ layout).long, rw c.entry-start.ensures.answer (checkpoints_within _ layout _ _ _ some size c.if-count-c.false), omega arith)

pub returns : goal.returns
returns c = let some = c.if-c-eq0.false in
    let size = c.checkpoint_count-count.ensures.answer in record { answer = c.checkpoint_in.ensures.answer ∙ rw c.entry-start.ensures.answer (checkpoint_at_lem _ c.requires _ _ _ some size c.if-count-c.false) }
