use mathlib.Core.Path.{◌≡◌}
use Rattle.lent.specs.Lent.{first_of}
use Rattle.event_log.specs.Layout.{workers_of}
use Rattle.breakpoints.specs.Breakpoints.{listed_refusal}
use Rattle.breakpoints.proofs.earliest_refusal.Given as goal

abbrev pub invariant-loop-k : goal.invariant-loop-k
invariant-loop-k l = first_of (listed_refusal (workers_of l.log) l.list) l.k ≡ 0
