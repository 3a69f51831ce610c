-- `interval_refusals::interval_length` meets its contract: before turn w `length` is where the sections of worker w begin in the interval log:
-- where the header ends for worker 0, and one worker's sections further after each turn. Assumes nothing.
use Rattle.event_log.specs.Layout.{workers_of}
use Rattle.pack.proofs.Writing.{limited, next_fits}
use Rattle.intervals.proofs.IntervalModel.{interval_size, interval_limited}
use Rattle.interval_refusals.proofs.interval_length.Goals as goal

pub overflow_add-length : goal.overflow_add-length
overflow_add-length c =
    let inside = rw (c.worker_count-n.ensures.answer, ← interval_size (workers_of c.args.log.now)) at c.loop-w-test.true in
    next_fits (interval_limited _ (limited _ c.requires)) inside c.loop-w.invariant c.sections_size-length.ensures.answer
