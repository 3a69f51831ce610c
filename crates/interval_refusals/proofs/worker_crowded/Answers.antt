-- `interval_refusals::worker_crowded` meets its contract: among the checkpoints passed no two fall into one interval, and the next one that
-- is not withdrawn does with another exactly where its interval is before `free` (`Apart`). Assumes nothing.
use mathlib.Core.Path.{sym}
use Rattle.ranges.proofs.Any.{any_more, any_found}
use Rattle.accept.proofs.Accepted.{well_formed}
use Rattle.interval_refusals.specs.Calls.{worker_crowded}
use Rattle.interval_refusals.proofs.Apart.{gone_alone, apart_gone, apart_found, apart_alone, apart_next}
use Rattle.interval_refusals.proofs.worker_crowded.Goals as goal

pub loop-k-preserved-then-checkpoint : goal.loop-k-preserved-then-checkpoint
loop-k-preserved-then-checkpoint c =
    let inv = c.loop-k.invariant in
    let ok = well_formed _ c.requires in
    let recorded = rw c.checkpoint_count-count.ensures.answer at c.loop-k-test.true in
    let gone = rw c.checkpoint_at-checkpoint.ensures.answer at c.if-checkpoint.true in
    (any_more _ _ inv.0 (sym (gone_alone ok inv.1 recorded gone)), apart_gone ok inv.1 recorded gone)

pub returns-then-number-free : goal.returns-then-number-free
unfolding worker_crowded
returns-then-number-free c =
    let recorded = rw c.checkpoint_count-count.ensures.answer at c.loop-k-test.true in
    let here = rw c.checkpoint_at-checkpoint.ensures.answer at c.if-checkpoint.false in
    let is = rw c.checkpoint_at-checkpoint.ensures.answer at c.advance-number.ensures.answer in
    let found = apart_found (well_formed _ c.requires) c.loop-k.invariant.1 recorded here is c.if-number-free.true in
    record { answer = sym (any_found _ _ _ recorded (sym found)) }

pub loop-k-preserved : goal.loop-k-preserved
loop-k-preserved c =
    let inv = c.loop-k.invariant in
    let ok = well_formed _ c.requires in
    let recorded = rw c.checkpoint_count-count.ensures.answer at c.loop-k-test.true in
    let here = rw c.checkpoint_at-checkpoint.ensures.answer at c.if-checkpoint.false in
    let is = rw c.checkpoint_at-checkpoint.ensures.answer at c.advance-number.ensures.answer in
    let alone = apart_alone ok inv.1 recorded here is c.if-number-free.false in
    let next = apart_next ok inv.1 recorded here is c.if-number-free.false in
    (any_more _ _ inv.0 (sym alone), rw c.checkpoint_at-checkpoint.ensures.answer next)
