-- `records::receives_once` meets its contract: the code compares the form with the second one, and that comparison is `receives_once`.
-- Assumes nothing.
use mathlib.Core.Path.{refl}
use Rattle.records.specs.Forms.{receives_once}
use Rattle.records.proofs.receives_once.Goals as goal

pub returns : goal.returns
unfolding receives_once
returns c = record { answer = refl }
