-- `repeats::mark` meets its contract: `received` is 0 or 1 and is shifted by less than 32, so the shift loses no bit and is the product
-- that `marked` has. Assumes nothing.
use mathlib.Core.Path.{refl}
use Prim.Native.Nat.{◌%◌}
use native.Mathlib.Omega.{arith}
use lib.Pow.{shl_exact}
use Rattle.repeats.specs.Inner.Table.{bit_at, marked}
use Rattle.repeats.proofs.mark.Goals as goal

-- the shift loses no bit
pub returns : goal.returns
unfolding bit_at marked
returns c = let place = c.args.place in
    let received = c.args.received in record { answer = refl; table = rw (shl_exact {a = received} 1 (place % 32) 32 (omega (arith, c.requires.1)) (omega arith)) }
