-- An event and its record. `Event` is the struct of src/lib.rt.
-- Assumes nothing.
use Rattle.std.specs.Prelude.{Bool, cond, ◌||◌, List, ℕ, ◌+◌, ◌*◌}
use Rattle.bytes_le.specs.Little.{le}
use Rattle.records.specs.declared.Kind.TheVariants.{Send, Unlogged, Logged, Rest}
use Rattle.records.specs.declared.Event.{Event}
use Rattle.records.specs.Kind.{kind_of, is_kind}

-- "Index 0 is the paper's ⊥: no event"
abbrev pub no_event : Event
no_event = record { kind = Rest; peer = 0; spare = 0; send = 0; stamp = 0 }

-- whether an event is a send, a receive without its data logged, a receive with its data logged
unfoldable pub is_send : Event → Bool
is_send e = is_kind Send e.kind

unfoldable pub is_unlogged : Event → Bool
is_unlogged e = is_kind Unlogged e.kind

unfoldable pub is_logged : Event → Bool
is_logged e = is_kind Logged e.kind

unfoldable pub is_receive : Event → Bool
is_receive e = is_unlogged e || is_logged e

-- the messages that an event receives: 1 for a receive, else 0
unfoldable pub received : Event → ℕ
received e = cond (is_receive e) 1 0

-- the send that a receive without its data names, and a number for any other event
unfoldable pub unlogged_send : Event → ℕ → ℕ
unlogged_send e otherwise = cond (is_unlogged e) e.send otherwise

-- "An event record is 12 bytes"
abbrev pub event_size : ℕ
event_size = 12

-- "kind (1 byte)", of record k, from 0, of a section
abbrev pub kind_byte : List ℕ → ℕ → ℕ
kind_byte part k = le 1 part (event_size * k)

-- "kind (1 byte), peer (1 byte), spare (2 bytes, zero), peer event (4 bytes), stamp (4 bytes)": record k, from 0, of a section
unfoldable pub event_record : List ℕ → ℕ → Event
event_record part k =
    record {
      kind = kind_of (kind_byte part k);
      peer = le 1 part (event_size * k + 1);
      spare = le 2 part (event_size * k + 2);
      send = le 4 part (event_size * k + 4);
      stamp = le 4 part (event_size * k + 8);
    }
