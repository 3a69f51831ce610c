-- The tests 7 to 10 in two parts: what an event shows beside the one before it, and what one that names another shows beside that.
-- Assumes nothing.
use Rattle.std.specs.Prelude.{Bool, not, cond, ◌||◌, ℕ, eqb, leb}
use Rattle.records.specs.declared.Event.{Event}
use Rattle.event_log.specs.Model.{Workers}
use Rattle.records.specs.Event.{is_send, is_receive}
use Rattle.record_tests.specs.Records.{peer_fault, source_fault, order_fault}

-- whether an event names another
unfoldable pub is_naming : Event → Bool
is_naming e = not (eqb e.send 0)

-- 1 for an event that names another, else 0
unfoldable pub names : Event → ℕ
names e = cond (is_naming e) 1 0

-- what an event of worker w shows beside the one before it, whose stamp is `before`: a fault of spare, peer or stamp, or it names no event and
-- is no send
unfoldable pub own_fault : Workers → ℕ → ℕ → Event → Bool
own_fault log w before e = not (eqb e.spare 0) || peer_fault log w e || leb e.stamp before || not (is_naming e || is_send e)

-- an event that names another: it is no receive, or fails 9 or 10
unfoldable pub naming_fault : Workers → ℕ → Event → Bool
naming_fault log w e = not (is_receive e) || source_fault log w e || order_fault log e
