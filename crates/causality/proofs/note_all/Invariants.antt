use mathlib.Core.Path.{◌≡◌}
use Rattle.event_log.specs.Layout.{workers_of}
use Rattle.causality.specs.Inner.Row.{named_row}
use Rattle.causality.proofs.note_all.Given as goal

abbrev pub invariant-loop-k : goal.invariant-loop-k
invariant-loop-k l = l.words ≡ named_row (workers_of l.log) l.i l.from l.k
