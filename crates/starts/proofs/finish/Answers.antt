-- `starts::finish` meets its contract: after w turns the third word of each of the first w workers is the identifier of the
-- checkpoint whose number stood there, and every other word is as before. Assumes nothing.
use mathlib.Core.Path.{◌∙◌}
use Prim.Native.Nat.{◌+◌, ◌*◌, ◌≤◌}
use native.Mathlib.Omega.{arith}
use native.Mathlib.Nat.{le_antisymm}
use lib.ListN.{length}
use Rattle.accept.proofs.Accepted.{accepted_layout}
use Rattle.restore_plan.specs.Plan.{identifier_of}
use Rattle.starts.proofs.Finished.{finishing_more, finishing_all}
use Rattle.starts.proofs.finish.Goals as goal

pub worker_count-n-requires : goal.worker_count-n-requires
worker_count-n-requires c = accepted_layout _ c.requires.0

pub checkpoint_at-point-requires : goal.checkpoint_at-point-requires
checkpoint_at-point-requires c = accepted_layout _ c.requires.0

pub loop-w-preserved : goal.loop-w-preserved
unfolding identifier_of
loop-w-preserved c =
    let wide : 3 * c.loop-w.w + 3 ≤ length c.args.words.now = omega (arith, c.worker_count-n.ensures.answer, c.loop-w-test.true) in
    rw (c.checkpoint_at-point.ensures.answer, c.number_in.ensures.answer) (finishing_more _ _ _ _ wide c.loop-w.invariant)

pub returns : goal.returns
returns c =
    let all = le_antisymm c.loop-w.auto.w-end c.loop-w-test.false ∙ c.worker_count-n.ensures.answer in
    record { words = finishing_all _ _ _ c.requires.1 (rw all at c.loop-w.invariant) }
