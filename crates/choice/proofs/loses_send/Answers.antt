-- `choice::loses_send` meets its contract: a start is below 2 ^ 32, so the sum is at most the start exactly for a receive without its data
-- whose send is (`compared_send`). Assumes nothing.
use Rattle.choice.proofs.Startable.{compared_send}
use Rattle.std.proofs.Common.{rules}
use Rattle.choice.proofs.loses_send.Goals as goal

pub returns : goal.returns
returns c = record { answer = rw (c.above_starts.ensures.answer, c.from.ensures, c.from-2.ensures) (compared_send _ _ (search rules)) }
