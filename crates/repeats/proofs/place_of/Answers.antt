-- `repeats::place_of` meets its contract: by `Numbered` the word of the peer is the number of its first event, and `received` is at most
-- the send, so the difference is exact. Assumes nothing.
use Rattle.std.proofs.Common.{arith}
use Rattle.repeats.specs.Inner.Table.{place_of}
use Rattle.repeats.proofs.place_of.Goals as goal

pub bounds-firsts-peer : goal.bounds-firsts-peer
bounds-firsts-peer c = let pre = c.requires in omega (arith, pre.0.long, pre.1)

pub overflow_sub-result : goal.overflow_sub-result
overflow_sub-result c = rw c.received.ensures.answer c.requires.2

pub returns : goal.returns
unfolding place_of
returns c = let pre = c.requires in record { answer = rw (c.received.ensures.answer, pre.0.each _ pre.1) }
