-- `event_pass::most_events` meets its contract: after w turns `most` is the largest event count of the first w workers, and by test 5 no
-- count is over 65,535. Assumes nothing.
use Rattle.std.proofs.Common.{◌≡◌, sym, arith}
use Rattle.ranges.proofs.Max.{max_none, max_more, max_least}
use Rattle.event_log.proofs.Read.{count_field}
use Rattle.event_pass.proofs.most_events.Goals as goal

pub loop-w-init : goal.loop-w-init
loop-w-init c = sym (max_none _)

pub loop-w-preserved : goal.loop-w-preserved
loop-w-preserved c = rw (max_more, ← c.event_count.ensures.answer, ← c.loop-w.invariant) c.max-most.ensures

pub returns : goal.returns
returns c =
    let last : c.loop-w.w ≡ c.worker_count-n.result = omega arith in
    let largest = rw (last, c.worker_count-n.ensures.answer) at c.loop-w.invariant in
    record { answer = largest; few = rw largest (max_least _ _ _ (λ w h. (count_field _ c.requires w).1)) }
