-- A table of bits, one for each event that a receive may name, and what a pass over the receives has marked in it.
-- Assumes nothing.
use Rattle.std.specs.Prelude.{◌≡◌, Bool, cond, ◌&&◌, ◌||◌, List, ℕ, ◌+◌, ◌-◌, ◌*◌, ◌/◌, ◌%◌, ◌^◌, ◌<◌, ◌≤◌, eqb, leb, ltb, length, set}
use Rattle.std.specs.Int.Bits.{bit_or}
use Rattle.ranges.specs.Fold.{any_below, sum_below}
use Rattle.lent.specs.Lent.{at}
use Rattle.records.specs.declared.Event.{Event}
use Rattle.event_log.specs.Model.{Workers, worker_count, event_count, event_of}
use Rattle.records.specs.Event.{is_receive, received}
use Rattle.repeats.specs.Inner.Again.{again}

-- the bits of a word, the words of the two tables, and the bits of a table
abbrev pub word_bits : ℕ
word_bits = 32

abbrev pub few_words : ℕ
few_words = 256

abbrev pub many_words : ℕ
many_words = 16384

abbrev pub table_bits : List ℕ → ℕ
table_bits table = word_bits * length table

-- bit i of a table, 0 or 1
unfoldable pub bit_at : List ℕ → ℕ → ℕ
bit_at table i = at table (i / word_bits) / 2 ^ (i % word_bits) % 2

-- the table with bit i set where x is 1, and as it was where x is 0
unfoldable pub marked : List ℕ → ℕ → ℕ → List ℕ
marked table i x = set table (i / word_bits) (bit_or (at table (i / word_bits)) (x * 2 ^ (i % word_bits)))

-- the events of all workers are numbered from 0, one worker after the other: the number of the first event of worker v
unfoldable pub first_place : Workers → ℕ → ℕ
first_place log v = sum_below (event_count log) v

-- all events
abbrev pub all_events : Workers → ℕ
all_events log = first_place log (worker_count log)

-- the number of the event that a receive names
unfoldable pub place_of : Workers → Event → ℕ
place_of log e = first_place log e.peer + (e.send - received e)

-- the number of what e receives has a bit in the table, whose bits are those from low on
unfoldable pub has_bit : Workers → ℕ → Event → List ℕ → Bool
has_bit log low e table = leb low (place_of log e) && ltb (place_of log e) (low + table_bits table)

-- the table after that bit is marked, where there is one, and whether e receives what was marked before
unfoldable pub table_after : Workers → ℕ → Event → List ℕ → List ℕ
table_after log low e table = cond (has_bit log low e table) (marked table (place_of log e - low) (received e)) table

unfoldable pub found_marked : Workers → ℕ → Event → List ℕ → Bool
found_marked log low e table = has_bit log low e table && eqb (bit_at table (place_of log e - low) + received e) 2

-- words that hold the number of each worker's first event
pub record Numbered (log : Workers) (firsts : List ℕ) : Type 0 where
  pub long : worker_count log ≤ length firsts
  pub each : (v : ℕ) → v < worker_count log → at firsts v ≡ first_place log v

-- event k + 1 of worker w receives the event with number p
unfoldable pub receives_place : Workers → ℕ → ℕ → ℕ → Bool
receives_place log p w k = is_receive (event_of log w (k + 1)) && eqb (place_of log (event_of log w (k + 1))) p

-- one of the events of worker v does
unfoldable pub worker_receives : Workers → ℕ → ℕ → Bool
worker_receives log p v = any_below (receives_place log p v) (event_count log v)

-- one of the events of the workers before w does, or one of the first k events of w
unfoldable pub received_before : Workers → ℕ → ℕ → ℕ → Bool
received_before log p w k = any_below (worker_receives log p) w || any_below (receives_place log p w) k

-- bit i of the table says so of the event with number low + i
pub record Marks (log : Workers) (low w k : ℕ) (table : List ℕ) : Type 0 where
  pub each : (i : ℕ) → i < table_bits table → bit_at table i ≡ cond (received_before log (low + i) w k) 1 0

-- event l + 1 of worker w receives again what an event before it receives, and the number of that is from low on and below high
unfoldable pub again_within : Workers → ℕ → ℕ → ℕ → ℕ → Bool
again_within log low high w l =
    again log w l && (leb low (place_of log (event_of log w (l + 1))) && ltb (place_of log (event_of log w (l + 1))) high)

unfoldable pub worker_again_within : Workers → ℕ → ℕ → ℕ → Bool
worker_again_within log low high w = any_below (again_within log low high w) (event_count log w)

unfoldable pub some_again_within : Workers → ℕ → ℕ → Bool
some_again_within log low high = any_below (worker_again_within log low high) (worker_count log)
