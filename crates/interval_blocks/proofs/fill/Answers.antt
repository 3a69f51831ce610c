-- `interval_blocks::fill` meets its contract: the rows of the first w workers end where the next row begins, and the table has a place for
-- each block. Assumes nothing.
use native.Mathlib.Omega.{arith}
use Rattle.event_log.specs.Model.{worker_count}
use Rattle.event_log.specs.Layout.{workers_of}
use Rattle.interval_blocks.proofs.BlockLaws.{blocks_before}
use Rattle.interval_blocks.proofs.fill.Goals as goal

pub fill_row-requires : goal.fill_row-requires
fill_row-requires c =
    let turn = c.loop-w in
    let log = workers_of c.args.log.now in
    let before = blocks_before log c.args.b turn.w (worker_count log) (rw c.worker_count-n.ensures.answer at c.loop-w-test.true) in
    (c.requires.0, c.requires.1, omega (arith, before, turn.invariant.place, turn.auto.table, c.requires.3))
