-- `pack::room_refusal` meets its contract: a length over that of the longest log gives 26, else one over the bytes lent gives 25: the two
-- tests of `room_refusal` in its order. Assumes nothing.
use Rattle.std.proofs.lemmas.Grind.{common_steps}
use native.Mathlib.Omega.{arith}
use Rattle.pack.specs.Calls.{room_refusal}
use Rattle.pack.proofs.room_refusal.Goals as goal

pub returns-then-size-gt-MAX_LENGTH : goal.returns-then-size-gt-MAX_LENGTH
unfolding room_refusal
returns-then-size-gt-MAX_LENGTH c = grind (arith, common_steps)

pub returns-then-lent-size : goal.returns-then-lent-size
unfolding room_refusal
returns-then-lent-size c = grind (arith, common_steps)

pub returns : goal.returns
unfolding room_refusal
returns c = grind (arith, common_steps)
