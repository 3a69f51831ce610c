use mathlib.Core.Path.{◌≡◌}
use mathlib.Core.Bool.{false}
use Rattle.event_log.specs.Layout.{workers_of}
use Rattle.event_pass.specs.Inner.Blocks.{some_within}
use Rattle.event_pass.proofs.some_event.Given as goal

abbrev pub invariant-loop-first : goal.invariant-loop-first
invariant-loop-first l = some_within l.first (workers_of l.log) ≡ false
