-- `interval_log::write_checkpoints` meets its contract: before each turn those of the first k checkpoints that are not withdrawn are written,
-- one behind the other (`Checkpoints`), and the next one is written as the interval log has it. Assumes nothing.
use Rattle.event_log.proofs.Read.{worker_within'}
use Rattle.accept.proofs.Accepted.{well_formed}
use Rattle.interval_log.proofs.Kept.{checkpoints_begin, checkpoints_past, checkpoints_room, checkpoints_more, checkpoints_end}
use Rattle.interval_log.proofs.write_checkpoints.Goals as goal

pub loop-k-init : goal.loop-k-init
loop-k-init c = checkpoints_begin _ _ _ _ c.requires

pub loop-k-preserved-then-checkpoint : goal.loop-k-preserved-then-checkpoint
loop-k-preserved-then-checkpoint c =
    let recorded = rw c.checkpoint_count-count.ensures.answer at c.loop-k-test.true in
    checkpoints_past c.loop-k.invariant recorded c.checkpoint_at-checkpoint.ensures.answer c.if-checkpoint.true

pub interval_of-number-requires : goal.interval_of-number-requires
interval_of-number-requires c =
    let recorded = rw c.checkpoint_count-count.ensures.answer at c.loop-k-test.true in
    let ok = well_formed _ c.args.table.now.accepted in
    (worker_within' _ _ _ recorded, rw c.checkpoint_at-checkpoint.ensures.answer (ok.indices _ _))

pub write_checkpoint-requires : goal.write_checkpoint-requires
write_checkpoint-requires c =
    let recorded = rw c.checkpoint_count-count.ensures.answer at c.loop-k-test.true in
    checkpoints_room c.loop-k.invariant recorded c.checkpoint_at-checkpoint.ensures.answer c.if-checkpoint.false

pub loop-k-preserved : goal.loop-k-preserved
loop-k-preserved c =
    let recorded = rw c.checkpoint_count-count.ensures.answer at c.loop-k-test.true in
    checkpoints_more c.loop-k.invariant recorded c.checkpoint_at-checkpoint.ensures.answer c.if-checkpoint.false
    c.interval_of-number.ensures.answer c.write_checkpoint.ensures.out c.write_checkpoint.auto.out

pub returns : goal.returns
returns c =
    let end = checkpoints_end c.loop-k.invariant (rw (← c.checkpoint_count-count.ensures.answer) c.loop-k-test.false) in
    record { answer = end.0; out = end.1 }
