-- How the code compares a send with a start.
-- Assumes nothing.
use Rattle.std.specs.Prelude.{cond, ℕ}
use Rattle.records.specs.declared.Event.{Event}
use Rattle.records.specs.Event.{is_unlogged}

-- what the code adds to an event's send, so that one comparison with a start serves every kind
unfoldable pub above_starts : Event → ℕ
above_starts e = cond (is_unlogged e) 0 4294967296
