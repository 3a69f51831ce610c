-- `records::marks_withdrawn` meets its contract: the code compares the form with the second one, and that comparison is `marks_withdrawn`.
-- Assumes nothing.
use mathlib.Core.Path.{refl}
use Rattle.records.specs.Forms.{marks_withdrawn}
use Rattle.records.proofs.marks_withdrawn.Goals as goal

pub returns : goal.returns
unfolding marks_withdrawn
returns c = record { answer = refl }
