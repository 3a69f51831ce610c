-- `pack::write_numbers` meets its contract: after j turns the first j numbers stand from `at` on in 4 bytes each, and every other byte is
-- as lent. Assumes nothing.
use native.Mathlib.Omega.{arith}
use Rattle.pack.specs.Packed.{number_at}
use Rattle.pack.proofs.Header.{numbers_long}
use Rattle.pack.proofs.Writing.{written_none, written_more}
use Rattle.pack.proofs.write_numbers.Goals as goal

pub loop-j-init : goal.loop-j-init
loop-j-init c = written_none

pub loop-j-preserved : goal.loop-j-preserved
unfolding number_at
loop-j-preserved c =
    let long = numbers_long c.args.numbers c.loop-j.j in
    written_more c.loop-j.invariant c.loop-j-test.true (omega (arith, c.requires)) (omega arith)
    c.write.ensures.bytes c.out-1.given
