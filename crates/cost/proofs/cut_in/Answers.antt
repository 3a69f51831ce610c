-- `cost::cut_in` meets its contract: the word read is the first of the worker's three, at 3 × w. Assumes nothing.
use mathlib.Core.Path.{refl}
use Rattle.cost.specs.Words.{cut_in}
use Rattle.cost.proofs.cut_in.Goals as goal

pub returns : goal.returns
unfolding cut_in
returns c = record { answer = refl }
