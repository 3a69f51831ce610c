use mathlib.Core.Path.{◌≡◌}
use Rattle.lower_cut.specs.Workers.{workers_word}
use Rattle.lower_cut.proofs.workers_word.Given as goal

abbrev pub invariant-loop-w : goal.invariant-loop-w
invariant-loop-w l = l.word ≡ workers_word l.cut l.w
