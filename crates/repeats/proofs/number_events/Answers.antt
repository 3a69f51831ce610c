-- `repeats::number_events` meets its contract: after w turns `next` is the number of events of the first w workers, and word v, for v below
-- w, is that of the workers before v. Assumes nothing.
use Rattle.std.proofs.Common.{◌≢◌, ◌<◌, length, sym, arith, below_none, below_more, get_or-set_same, get_or-set_other}
use Rattle.repeats.proofs.Places.{first_none, first_more, places_few}
use Rattle.repeats.proofs.number_events.Goals as goal

pub loop-w-init : goal.loop-w-init
loop-w-init c = (sym (first_none _), below_none _)

pub overflow_add-next : goal.overflow_add-next
overflow_add-next c =
    let few = places_few _ c.requires.0 c.loop-w.w (rw c.worker_count-n.ensures.answer at c.loop-w.auto.w-end) in
    omega (arith, c.loop-w.invariant.0, c.event_count-next.ensures.few)

pub loop-w-preserved : goal.loop-w-preserved
loop-w-preserved c =
    let inv = c.loop-w.invariant in
    let inside : c.loop-w.w < length c.loop-w.firsts = omega (arith, c.worker_count-n.ensures.answer, c.requires.1) in (
      rw (first_more, inv.0, c.event_count-next.ensures.answer),
      below_more _ _ (λ v h. let other : v ≢ c.loop-w.w = omega arith in rw get_or-set_other (inv.1 v h)) (rw get_or-set_same inv.0),
    )
