-- `starts::place` meets its contract: the two stores put the index of checkpoint c in the worker's second word and the number c in
-- its third. Assumes nothing.
use Rattle.accept.proofs.Accepted.{accepted_layout}
use Rattle.starts.specs.Inner.Rollback.{placed}
use Rattle.starts.proofs.place.Goals as goal

pub checkpoint_at-point-requires : goal.checkpoint_at-point-requires
checkpoint_at-point-requires c = accepted_layout _ c.requires.0

pub returns : goal.returns
unfolding placed
returns c = record { words = rw c.checkpoint_at-point.ensures.answer }
