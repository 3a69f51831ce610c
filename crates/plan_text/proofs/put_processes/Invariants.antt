use mathlib.Core.Path.{◌≡◌}
use Prim.Native.Nat.{◌≤◌}
use lib.ListN.{length}
use Rattle.event_log.specs.Layout.{workers_of}
use Rattle.plan_text.specs.Text.{process_lines}
use Rattle.plan_text.specs.Buffer.{Adds}
use Rattle.plan_text.proofs.put_processes.Given as goal

abbrev pub invariant-loop-w : goal.invariant-loop-w
invariant-loop-w l = (l.w ≤ l.n) × (length l.out ≡ length l.initial.out) × Adds l.initial.out l.at l.out l.next (λ text. process_lines text (workers_of l.log) l.words l.upper l.w)
