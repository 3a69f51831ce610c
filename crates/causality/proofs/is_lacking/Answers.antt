-- `causality::is_lacking` meets its contract: the peer of an event is a worker of the log, so it has a word in the cut; a send names 0,
-- which is above no word, so one comparison serves both kinds (`lacks_any`). Assumes nothing.
use Rattle.causality.proofs.Peers.{lacks_any}
use Rattle.causality.proofs.is_lacking.Goals as goal

pub returns : goal.returns
returns c = record { answer = lacks_any _ c.requires.0 _ _ _ c.event_at-e.ensures.answer c.requires.2 _ }
