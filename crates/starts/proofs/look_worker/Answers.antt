-- `starts::look_worker` meets its contract: with x left, the events of worker w after x have been looked at, and w starts where it
-- did, since the sender of a receive is another worker; at the end none after that start is left. Assumes nothing.
use Rattle.accept.proofs.Accepted.{well_formed}
use Rattle.starts.proofs.Settling.{looking_more}
use Rattle.starts.proofs.look_worker.Goals as goal

pub loop-x-preserved : goal.loop-x-preserved
loop-x-preserved c =
    let pre = c.requires in
    rw c.resend.ensures.words
    (looking_more _ (well_formed _ pre.0) _ pre.2 _ _ _ pre.1 _ _ _ c.loop-x.invariant c.loop-x-test.true)
