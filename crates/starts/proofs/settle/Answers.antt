-- `starts::settle` meets its contract: each turn looks at the first worker with events left and keeps `RollingBack`; where no
-- worker has any left, the starts are the latest that are startable, which are the plan's (`settled`). Assumes nothing.
use Rattle.std.proofs.Common.{None, Some, rules, arith}
use borrow.Author.Tests.{ltb-true, ltb-false}
use Rattle.ranges.proofs.FoundOrNone.{found_or_none}
use Rattle.accept.proofs.Accepted.{accepted_layout, well_formed}
use Rattle.starts.specs.Inner.Rollback.{pending}
use Rattle.starts.proofs.Settling.{rolling_cut, looked_less, settled}
use Rattle.starts.proofs.settle.Goals as goal

pub worker_count-n-requires : goal.worker_count-n-requires
worker_count-n-requires c = accepted_layout _ c.requires.0

pub look_worker-requires : goal.look_worker-requires
unfolding pending
look_worker-requires c =
    let one = found_or_none (pending c.loop-w.words c.loop-w.looked) _ _ _ (Some c.in-Some.w) c.in-Some.ensures.ran (λ x b q k. search rules) in
    let same = rolling_cut _ _ _ _ c.requires.1 c.loop-w.invariant in
    (c.requires.0, rw c.worker_count-n.ensures.answer at one.1, rw same c.requires.1, rw same c.loop-w.invariant)

pub loop-w-smaller : goal.loop-w-smaller
unfolding pending
loop-w-smaller c =
    let one = found_or_none (pending c.loop-w.words c.loop-w.looked) _ _ _ (Some c.in-Some.w) c.in-Some.ensures.ran (λ x b q k. search rules) in
    let looked = c.look_worker.ensures in
    let here = rw c.worker_count-n.ensures.answer at one.1 in
    rw c.worker_count-n.ensures.answer (looked_less _ _ _ _ _ _ looked.looked _ here (ltb-true _ _ one.2) looked.done)

pub loop-w-preserved : goal.loop-w-preserved
loop-w-preserved c =
    let same = rolling_cut _ _ _ _ c.requires.1 c.loop-w.invariant in rw same at c.look_worker.ensures.looked.rolling

pub returns : goal.returns
unfolding pending
returns c =
    let none = found_or_none (pending c.loop-w.words c.loop-w.looked) _ _ _ None c.in_default.ensures.ran (λ x b q k. search rules) in
    record {
      settled = settled _ (well_formed _ c.requires.0) _ c.requires.1 _ _ c.loop-w.invariant
          (λ w h. ltb-false _ _ (none w (omega arith) (rw c.worker_count-n.ensures.answer h)));
    }
