-- `plan_text::put_processes` meets its contract: after w turns the process lines of the first w workers stand behind the text, and `next`
-- is the place after them. Assumes nothing.
use mathlib.Core.Path.{refl}
use native.Mathlib.Omega.{arith}
use Rattle.accept.proofs.Accepted.{accepted_layout}
use Rattle.plan_text.proofs.Lines.{lines_none, lines_more}
use Rattle.plan_text.proofs.put_processes.Goals as goal

pub worker_count-n-requires : goal.worker_count-n-requires
worker_count-n-requires c = accepted_layout _ c.requires.0

pub loop-w-init : goal.loop-w-init
loop-w-init c = (omega arith, refl, lines_none _ _ _ _ _)

pub role_of-requires : goal.role_of-requires
role_of-requires c = accepted_layout _ c.requires.0

pub loop-w-preserved : goal.loop-w-preserved
loop-w-preserved c = (
  omega arith,
  omega (arith, c.loop-w.invariant.1),
  lines_more _ _ _ _ _ _ _ _ _ _ _ c.role_of.ensures.answer c.loop-w.invariant.2 c.put_process-next.ensures.text,
)
