-- `pack::packed_length` meets its contract: before turn w `at` is where the sections of worker w begin: where the header ends for worker 0,
-- and one worker's sections further after each turn. Assumes nothing.
use Rattle.std.proofs.lemmas.Grind.{common_steps}
use mathlib.Core.Path.{sym, ◌∙◌}
use native.Mathlib.Omega.{arith}
use Rattle.pack.specs.Packed.{packed_length}
use Rattle.pack.proofs.Writing.{start_first, start_next, limited, next_fits}
use Rattle.pack.proofs.packed_length.Goals as goal

pub loop-w-init : goal.loop-w-init
loop-w-init c = (omega arith, c.header_of-at.ensures.answer ∙ rw c.worker_count-n.ensures.answer (sym (start_first _)))

pub overflow_add-at : goal.overflow_add-at
overflow_add-at c = next_fits (limited _ c.requires) (rw c.worker_count-n.ensures.answer at c.loop-w-test.true) c.loop-w.invariant.1 c.sections_size-at.ensures.answer

pub loop-w-preserved : goal.loop-w-preserved
loop-w-preserved c = (omega arith, rw (c.loop-w.invariant.1, c.sections_size-at.ensures.answer) (sym (start_next _ _)))

pub returns : goal.returns
unfolding packed_length
returns c = grind (arith, common_steps)
