-- `bytes_le::read` meets its contract: each turn adds one byte more, by its worth (`read_next`), and four of them fit. Assumes nothing.
use Rattle.std.proofs.Common.{◌+◌, ◌^◌, ◌<◌, arith, refl, sym}
use Rattle.bytes_le.specs.Little.{le, Bytes}
use Rattle.bytes_le.proofs.Little.{number_below_lem}
use Rattle.bytes_le.proofs.Places.{read_next, byte_fits}
use Rattle.bytes_le.proofs.read.Goals as goal

pub loop-k-init : goal.loop-k-init
unfolding le
loop-k-init g c = refl

pub overflow_add-number : goal.overflow_add-number
overflow_add-number g c =
    let bytes : Bytes c.args.s.now = λ i. omega (arith, c.type_inv.s i) in
    let byte : c.from.result < 256 = rw c.from.ensures (bytes _) in
    let low : c.loop-k.number < 256 ^ c.loop-k.k = rw c.loop-k.invariant (number_below_lem c.loop-k.k c.args.s.now c.args.at bytes) in
    omega (arith, byte_fits c.loop-k.k c.loop-k.number c.from.result (omega arith) low byte)

pub loop-k-preserved : goal.loop-k-preserved
loop-k-preserved g c =
    rw (c.loop-k.invariant, c.from.ensures) (sym (read_next c.loop-k.k c.args.at c.args.s.now (omega arith) (omega (arith, c.type_inv.s (c.args.at + c.loop-k.k)))))
