-- `causality::note` meets its contract: the word of a receive's peer becomes the larger of itself and the send named; a send names 0, and
-- the larger is then the word as it was (`noted_any`). Assumes nothing.
use Rattle.causality.proofs.Peers.{noted_any}
use Rattle.causality.proofs.note.Goals as goal

pub returns : goal.returns
returns c =
    let pre = c.requires in
    let read = c.event_at-e.ensures.answer in
    record { words = rw (c.max.ensures, ← read) (noted_any _ pre.0 _ _ _ read pre.2 _) }
