use mathlib.Core.Path.{◌≡◌}
use mathlib.Core.Bool.{false}
use Rattle.event_log.specs.Layout.{workers_of}
use Rattle.repeats.specs.Inner.Table.{some_again_within}
use Rattle.repeats.proofs.repeat_fault.Given as goal

abbrev pub invariant-loop-low : goal.invariant-loop-low
invariant-loop-low l = some_again_within (workers_of l.log) 0 l.low ≡ false
