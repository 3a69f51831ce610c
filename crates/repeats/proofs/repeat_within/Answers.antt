-- `repeats::repeat_within` meets its contract: the table is new, so none of its words has a bit set, as `mark_all` asks of it before the
-- first worker (`marks_none`). Assumes nothing.
use mathlib.Core.Logic.{⊎_elim}
use Rattle.std.proofs.Common.{arith}
use Rattle.repeats.proofs.Marks.{marks_none}
use Rattle.repeats.proofs.repeat_within.Goals as goal

pub mark_all-requires : goal.mark_all-requires
mark_all-requires g c = let pre = c.requires in (pre.0, pre.1, pre.2, marks_none _ _ _, ⊎_elim (λ few. omega (arith, few)) (λ many. omega (arith, many)) pre.3)
