-- `records::checkpoint_record` meets its contract: the index is read at byte 8 × k and the identifier word at 8 × k + 4; the identifier and
-- the mark are both taken from that word. Assumes nothing.
use Rattle.records.specs.Checkpoint.{checkpoint_record}
use Rattle.records.proofs.checkpoint_record.Goals as goal

pub returns : goal.returns
unfolding checkpoint_record
returns c = record { answer = cc }
