-- `pack::write_entries` meets its contract: after w turns the entries of the first w workers stand behind the fields, every other byte is
-- as lent, and `start` is where the sections of worker w begin. Assumes nothing.
use mathlib.Core.Path.{sym, ◌∙◌}
use native.Mathlib.Omega.{arith}
use Rattle.event_log.specs.Layout.{workers_of}
use Rattle.pack.specs.Packed.{numbers_of, entry_of}
use Rattle.pack.proofs.Header.{entries_long}
use Rattle.pack.proofs.Writing.{written_none, written_more, start_first, start_next, limited, next_fits, header_within, entry_within}
use Rattle.pack.proofs.write_entries.Goals as goal

pub loop-w-init : goal.loop-w-init
loop-w-init c = (c.header_of-start.ensures.answer ∙ rw c.worker_count-n.ensures.answer (sym (start_first _)), written_none)

pub write_entry-requires : goal.write_entry-requires
write_entry-requires c =
    let h = rw c.worker_count-n.ensures.answer at c.loop-w-test.true in
    let within = entry_within (workers_of c.args.log.now) c.loop-w.w h in (
      omega (arith, c.worker_count-n.ensures.few, c.loop-w-test.true),
      omega (arith, c.requires.enough, c.loop-w.invariant.1.long, within.0),
      rw (c.loop-w.invariant.0, c.event_count-events.ensures.answer) (omega (arith, c.requires.fits, within.1)),
    )

pub overflow_add-start : goal.overflow_add-start
overflow_add-start c = next_fits (limited _ c.requires.layout) (rw c.worker_count-n.ensures.answer at c.loop-w-test.true)
    c.loop-w.invariant.0 c.sections_size-start.ensures.answer

pub loop-w-preserved : goal.loop-w-preserved
unfolding entry_of numbers_of
loop-w-preserved c =
    let within = header_within (workers_of c.args.log.now) in
    let long = entries_long (workers_of c.args.log.now) c.loop-w.w in
    let wrote = rw (c.role_of.ensures.answer, c.checkpoint_count-checkpoints.ensures.answer, c.event_count-events.ensures.answer, c.loop-w.invariant.0)
    at c.write_entry.ensures.out in (
      rw (c.loop-w.invariant.0, c.sections_size-start.ensures.answer) (sym (start_next _ _)),
      written_more c.loop-w.invariant.1 c.loop-w-test.true (omega (arith, c.requires.enough)) (omega arith) wrote c.out-1.given,
    )
