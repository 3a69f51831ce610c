-- `interval_log::write_entries` meets its contract: after w turns the entries of the first w workers stand behind the fields, every other byte
-- is as lent, and `start` is where the sections of worker w begin; its counts are the receives up to its last event and the checkpoints that
-- are not withdrawn. Assumes nothing.
use mathlib.Core.Path.{◌≡◌, sym, ◌∙◌}
use native.Mathlib.Omega.{arith}
use Rattle.event_log.specs.Model.{Workers, event_count}
use Rattle.event_log.specs.Layout.{workers_of}
use Rattle.pack.specs.Packed.{sections_size, numbers_of, entry_of}
use Rattle.pack.proofs.Header.{entries_long}
use Rattle.pack.proofs.Writing.{written_none, written_more, start_first, start_next, header_within}
use Rattle.intervals.specs.Interval.{interval_workers}
use Rattle.intervals.proofs.IntervalModel.{interval_size, interval_count, interval_role}
use Rattle.interval_log.proofs.write_entries.Goals as goal

pub loop-w-init : goal.loop-w-init
loop-w-init c = (c.header_of-start.ensures.answer ∙ rw (c.worker_count-n.ensures.answer, ← interval_size _) (sym (start_first _)), written_none)

pub loop-w-preserved : goal.loop-w-preserved
unfolding entry_of numbers_of sections_size
loop-w-preserved c =
    let log : Workers = interval_workers (workers_of c.args.table.now.intervals.log.now) in
    let receives : c.interval_of-receives.result.0 ≡ event_count log c.loop-w.w = rw (c.interval_of-receives.ensures.answer, c.event_count.ensures.answer) (sym (interval_count _ _)) in
    let within = header_within log in
    let long = entries_long log c.loop-w.w in
    let role = c.role_of.ensures.answer ∙ sym (interval_role _ _) in
    let wrote = rw (role, c.kept_count-kept.ensures.answer, receives, c.loop-w.invariant.0) at c.write_entry.ensures.out in (
      rw (c.loop-w.invariant.0, receives, c.kept_count-kept.ensures.answer) (sym (start_next _ _)),
      written_more c.loop-w.invariant.1 c.loop-w-test.true (omega (arith, c.requires.1)) (omega arith) wrote c.write_entry.auto.out,
    )
