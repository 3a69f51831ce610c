-- Refusals 1 to 6 of document 01, "Refused by the input": the header and the places of the sections.
-- Assumes nothing.
use Rattle.std.specs.Prelude.{Bool, not, cond, ◌||◌, List, ℕ, ◌+◌, ◌*◌, eqb, ltb, length}
use Rattle.ranges.specs.Fold.{any_below}
use Rattle.records.specs.Forms.{is_form}
use Rattle.event_log.specs.Limits.{min_length, max_length, max_workers, max_events, max_checkpoints, max_role}
use Rattle.event_log.specs.Layout.{form_field, size_field, length_field, header_of, field, event_count_field, event_offset_field, checkpoint_count_field, checkpoint_offset_field, role_field}
use Rattle.records.specs.Event.{event_size}
use Rattle.records.specs.Checkpoint.{checkpoint_size}

-- 1: "log under 8 or over 4,194,304 bytes"
unfoldable pub length_fault : List ℕ → Bool
length_fault s = ltb (length s) min_length || ltb max_length (length s)

-- 2: "a form that is neither"
unfoldable pub form_fault : List ℕ → Bool
form_fault s = not (is_form (form_field s))

-- 3: "n outside 1..64"
unfoldable pub size_fault : List ℕ → Bool
size_fault s = eqb (size_field s) 0 || ltb max_workers (size_field s)

-- 4: "length field unlike the lent length, or header longer than the log"
unfoldable pub header_fault : List ℕ → Bool
header_fault s = not (eqb (length_field s) (length s)) || ltb (length s) (header_of (size_field s))

-- 5: "event count, checkpoint count or role over its limit"
unfoldable pub limit_fault : List ℕ → ℕ → Bool
limit_fault s w =
    ltb max_events (field s w event_count_field)
    || ltb max_checkpoints (field s w checkpoint_count_field)
    || ltb max_role (field s w role_field)

-- "starts inside the header or passes the log's end"
unfoldable pub outside : List ℕ → ℕ → ℕ → Bool
outside s start bytes = ltb start (header_of (size_field s)) || ltb (length s) (start + bytes)

-- 6: "a section, even empty, starts inside the header or passes the log's end"
unfoldable pub section_fault : List ℕ → ℕ → Bool
section_fault s w =
    outside s (field s w event_offset_field) (event_size * field s w event_count_field)
    || outside s (field s w checkpoint_offset_field) (checkpoint_size * field s w checkpoint_count_field)

-- 5 and 6 by their number, and whether some worker has the fault
unfoldable pub entry_fault : ℕ → List ℕ → ℕ → Bool
entry_fault test s w = cond (eqb test 5) (limit_fault s w) (section_fault s w)

unfoldable pub some_entry : ℕ → List ℕ → Bool
some_entry test s = any_below (entry_fault test s) (size_field s)

unfoldable pub entries_refusal : List ℕ → ℕ
entries_refusal s = cond (some_entry 5 s) 5 (cond (some_entry 6 s) 6 0)

-- 2 to 6, of bytes that 1 does not refuse
abbrev pub header_refusal : List ℕ → ℕ
header_refusal s = cond (form_fault s) 2 (cond (size_fault s) 3 (cond (header_fault s) 4 (entries_refusal s)))

-- 1 to 6: 0 where the header and the sections lie as they should
unfoldable pub layout_refusal : List ℕ → ℕ
layout_refusal s = cond (length_fault s) 1 (header_refusal s)
