-- `cost::identifier_in` meets its contract: the word read is the third of the worker's three, at 3 × w + 2. Assumes nothing.
use mathlib.Core.Path.{refl}
use Rattle.cost.specs.Words.{identifier_in}
use Rattle.cost.proofs.identifier_in.Goals as goal

pub returns : goal.returns
unfolding identifier_in
returns c = record { answer = refl }
