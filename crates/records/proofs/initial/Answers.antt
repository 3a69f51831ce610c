-- `records::initial` meets its contract: the checkpoint that is made has the fields of the initial state: index 0, identifier 0, not
-- withdrawn. Assumes nothing.
use mathlib.Core.Path.{refl}
use Rattle.records.proofs.initial.Goals as goal

pub returns : goal.returns
returns c = record { answer = refl }
