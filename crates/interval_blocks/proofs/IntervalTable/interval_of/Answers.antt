-- `interval_blocks::IntervalTable::interval_of` meets its contract: event x is in block x / 2 ^ b of its worker, which begins at or before it,
-- and the table has the interval there. Assumes nothing.
use mathlib.Core.Path.{◌≡◌}
use Prim.Native.Nat.{◌/◌, ◌*◌, ◌%◌, ◌^◌}
use native.Mathlib.Nat.{div-mul-le_self, mod-eq_of_lt}
use native.Mathlib.Omega.{arith}
use Rattle.event_log.proofs.Read.{count_field}
use Rattle.interval_blocks.proofs.BlockLaws.{place_holds}
use Rattle.interval_blocks.proofs.IntervalTable.interval_of.Goals as goal

pub advance-requires : goal.advance-requires
advance-requires c =
    let self = c.args.self.now in
    let layout = self.laid_out in
    let holds = place_holds _ _ _ _ self.blocks _ _ c.requires.0 c.requires.1 in
    let before = div-mul-le_self c.args.x.0 (2 ^ self.b) in
    let count = (count_field _ layout c.args.w).1 in
    let begin = c.args.x.0 / 2 ^ self.b * 2 ^ self.b in
    let exact : begin % 2 ^ 32 ≡ begin = mod-eq_of_lt (omega (arith, before, count, c.requires.1)) in
    (layout, omega (arith, exact, before), omega (arith, exact, before, c.requires.1), rw (exact, holds))
