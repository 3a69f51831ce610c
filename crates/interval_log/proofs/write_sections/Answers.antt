-- `interval_log::write_sections` meets its contract: after w turns the sections of the first w workers stand behind the header without gaps,
-- every other byte is as lent, and `at` is where those of worker w begin. Assumes nothing.
use mathlib.Core.Path.{sym, ◌∙◌}
use native.Mathlib.Omega.{arith}
use Rattle.event_log.specs.Layout.{workers_of}
use Rattle.pack.proofs.Header.{sections_before}
use Rattle.pack.proofs.Writing.{written_none, written_more, start_first, start_next, header_within}
use Rattle.intervals.specs.Interval.{interval_workers}
use Rattle.intervals.proofs.IntervalModel.{interval_size}
use Rattle.interval_log.proofs.write_sections.Goals as goal

pub loop-w-init : goal.loop-w-init
loop-w-init c = (c.header_of-at.ensures.answer ∙ rw (c.worker_count-n.ensures.answer, ← interval_size _) (sym (start_first _)), written_none)

pub loop-w-preserved : goal.loop-w-preserved
loop-w-preserved c =
    let log = interval_workers (workers_of c.args.table.now.intervals.log.now) in
    let size = interval_size (workers_of c.args.table.now.intervals.log.now) in
    let within = header_within log in
    let place = sections_before log c.loop-w.w in (
      rw c.loop-w.invariant.0 at c.write_worker-at.ensures.answer ∙ sym (start_next _ _),
      written_more c.loop-w.invariant.1 c.loop-w-test.true (omega (arith, c.requires)) (omega (arith, c.loop-w.invariant.0)) c.write_worker-at.ensures.out
          c.write_worker-at.auto.out,
    )
