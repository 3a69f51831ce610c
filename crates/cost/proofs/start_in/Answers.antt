-- `cost::start_in` meets its contract: the word read is the second of the worker's three, at 3 × w + 1. Assumes nothing.
use mathlib.Core.Path.{refl}
use Rattle.cost.specs.Words.{start_in}
use Rattle.cost.proofs.start_in.Goals as goal

pub returns : goal.returns
unfolding start_in
returns c = record { answer = refl }
