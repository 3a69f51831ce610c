use Rattle.pack.specs.Packed.{number_at}
use Rattle.pack.proofs.Writing.{Written}
use Rattle.pack.proofs.write_numbers.Given as goal

abbrev pub invariant-loop-j : goal.invariant-loop-j
invariant-loop-j l = Written (number_at l.fn.numbers) l.at l.initial.out 5 l.j l.out
