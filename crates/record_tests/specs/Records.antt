-- Refusals 7 to 11 of document 01, "Refused by the input": a test for each number.
-- Assumes nothing.
use Rattle.std.specs.Prelude.{Bool, not, cond, ◌&&◌, ◌||◌, ℕ, ◌+◌, eqb, leb, ltb}
use Rattle.ranges.specs.Fold.{any_below}
use Rattle.records.specs.declared.Event.{Event}
use Rattle.records.specs.declared.Checkpoint.{Checkpoint}
use Rattle.event_log.specs.Model.{Workers, worker_count, event_count, event_of, checkpoint_count, checkpoint_of}
use Rattle.records.specs.Event.{is_send, is_receive}
use Rattle.record_tests.specs.declared.RecordTest.{RecordTest}
use Rattle.record_tests.specs.declared.RecordTest.TheVariants.{Fields, Stamps, Sources, Orders, Checkpoints}

-- "Kind 1 is a send, 2 a receive .., 3 a receive .."
unfoldable pub kind_fault : Event → Bool
kind_fault e = not (is_send e || is_receive e)

-- "peer is itself or not below n"
unfoldable pub peer_fault : Workers → ℕ → Event → Bool
peer_fault log w e = eqb e.peer w || leb (worker_count log) e.peer

-- "Peer event is 0 for a send"; "a receive's peer event is 0 or over the peer's count"
unfoldable pub send_fault : Workers → Event → Bool
send_fault log e = cond (is_send e) (not (eqb e.send 0)) (eqb e.send 0 || ltb (event_count log e.peer) e.send)

-- 7: "kind, spare or peer event not as above; peer is itself or not below n; a receive's peer event is 0 or over the peer's count"
unfoldable pub field_fault : Workers → ℕ → Event → Bool
field_fault log w e = not (eqb e.spare 0) || kind_fault e || peer_fault log w e || send_fault log e

-- 8: "stamp 0, or not above the worker's previous one"; event 0 has stamp 0
unfoldable pub stamp_fault : Workers → ℕ → ℕ → Event → Bool
stamp_fault log w k e = leb e.stamp (event_of log w k).stamp

-- the event that a receive names
unfoldable pub send_of : Workers → Event → Event
send_of log e = event_of log e.peer e.send

-- 9: "a receive names an event that isn't a send to its worker"
unfoldable pub source_fault : Workers → ℕ → Event → Bool
source_fault log w e = is_receive e && not (is_send (send_of log e) && eqb (send_of log e).peer w)

-- 10: "a receive's stamp not above its send's"
unfoldable pub order_fault : Workers → Event → Bool
order_fault log e = is_receive e && leb e.stamp (send_of log e).stamp

-- any of 7 to 10, of event k + 1 of worker w
unfoldable pub any_fault : Workers → ℕ → ℕ → Event → Bool
any_fault log w k e = field_fault log w e || stamp_fault log w k e || source_fault log w e || order_fault log e

-- 7 to 10 by their number; any other number is for any of them
unfoldable pub event_fault : ℕ → Workers → ℕ → ℕ → Event → Bool
event_fault test log w k e =
    cond (eqb test 7) (field_fault log w e)
    (cond (eqb test 8) (stamp_fault log w k e)
    (cond (eqb test 9) (source_fault log w e)
    (cond (eqb test 10) (order_fault log e)
    (any_fault log w k e))))

-- 11: "checkpoint index over the event count or below the previous one; identifier 0 or not above the previous"
unfoldable pub checkpoint_fault : Workers → ℕ → Checkpoint → Checkpoint → Bool
checkpoint_fault log w before c =
    ltb (event_count log w) c.index || ltb c.index before.index || leb c.identifier before.identifier

-- 7 to 11 by their number, of record k of worker w
unfoldable pub record_fault : ℕ → Workers → ℕ → ℕ → Bool
record_fault test log w k =
    cond (eqb test 11) (checkpoint_fault log w (checkpoint_of log w k) (checkpoint_of log w (k + 1)))
    (event_fault test log w k (event_of log w (k + 1)))

-- how many records of worker w the test looks at
unfoldable pub record_count : ℕ → Workers → ℕ → ℕ
record_count test log w = cond (eqb test 11) (checkpoint_count log w) (event_count log w)

unfoldable pub worker_fault : ℕ → Workers → ℕ → Bool
worker_fault test log w = any_below (record_fault test log w) (record_count test log w)

-- whether some record of the log has the fault of this number
unfoldable pub some_record : ℕ → Workers → Bool
some_record test log = any_below (worker_fault test log) (worker_count log)

-- the number of each test
abbrev pub test_number : RecordTest → ℕ
test_number Fields = 7
test_number Stamps = 8
test_number Sources = 9
test_number Orders = 10
test_number Checkpoints = 11
