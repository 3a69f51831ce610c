-- `pack::write_sections` meets its contract: after w turns the sections of the first w workers stand behind the header without gaps, every
-- other byte is as lent, and `at` is where those of worker w begin. Assumes nothing.
use mathlib.Core.Path.{sym, ◌∙◌}
use native.Mathlib.Omega.{arith}
use Rattle.event_log.specs.Layout.{workers_of}
use Rattle.pack.proofs.Header.{sections_before}
use Rattle.pack.proofs.Writing.{written_none, written_more, start_first, header_within}
use Rattle.pack.proofs.write_sections.Goals as goal

pub loop-w-init : goal.loop-w-init
loop-w-init c = (c.header_of-at.ensures.answer ∙ rw c.worker_count-n.ensures.answer (sym (start_first _)), written_none)

pub loop-w-preserved : goal.loop-w-preserved
loop-w-preserved c =
    let within = header_within (workers_of c.args.log.now) in (
      c.copy_sections-at.ensures.answer,
      written_more c.loop-w.invariant.1 c.loop-w-test.true (omega (arith, c.requires.enough))
          (c.loop-w.invariant.0 ∙ sections_before _ c.loop-w.w)
          c.copy_sections-at.ensures.out c.out-1.given,
    )
