-- What the functions that write a packed log show: where each piece begins, and that one piece follows the other. Assumes nothing.
use mathlib.Core.Path.{◌≡◌, refl, sym, ◌∙◌}
use mathlib.Core.List.{List, ◌++◌}
use Prim.Native.Nat.{ℕ, ◌+◌, ◌*◌, ◌<◌, ◌≤◌}
use native.Mathlib.Nat.{le_antisymm}
use native.Mathlib.Omega.{arith}
use lib.ListN.{length, length-append}
use mir.Syntax.{w64}
use mir.Val.{Fits}
use Rattle.ranges.specs.Fold.{join_below}
use Rattle.ranges.proofs.Join.{join_none, join_more}
use Rattle.ranges.proofs.Sum.{sum_none, sum_more, sum_grows, sum_bound}
use Rattle.lent.specs.Lent.{onto}
use Rattle.lent.specs.Inner.Overwrite.{overwrite}
use Rattle.lent.proofs.Overwrite.{overwrite_none, overwrite_more}
use Rattle.bytes_le.specs.Little.{bytes_of, Bytes}
use Rattle.bytes_le.proofs.Little.{length_bytes}
use Rattle.event_log.specs.Model.{Log, Workers, worker_count, event_count, checkpoint_count}
use Rattle.event_log.specs.Header.{layout_refusal}
use Rattle.event_log.specs.Limits.{max_length, max_workers, max_events, max_checkpoints}
use Rattle.event_log.specs.Layout.{header_of, event_section, checkpoint_section, workers_of}
use Rattle.records.specs.Event.{event_size}
use Rattle.records.specs.Checkpoint.{checkpoint_size}
use Rattle.event_log.proofs.Read.{workers_few, count_field, checkpoints_field}
use Rattle.pack.specs.Packed.{field_bytes, sections_of, sections_size, start_of, entry_of, packed_length, fields_of, packed}
use Rattle.pack.specs.Inner.Room.{KnownKinds, Room}
use Rattle.pack.proofs.Records.{events_long_lem, checkpoints_long, sections_bytes}
use Rattle.pack.proofs.Header.{fields_long, header_long}

module _ (log : Workers) where
  pub start_first : start_of log 0 ≡ header_of (worker_count log)
  unfolding start_of
  start_first = rw (sum_none (sections_size log)) (omega arith)

  pub start_next : (w : ℕ) → start_of log (w + 1) ≡ start_of log w + sections_size log w
  unfolding start_of
  start_next w = rw (sum_more (sections_size log) w) (omega arith)

  -- the sections begin behind the header
  pub start_behind : (w : ℕ) → header_of (worker_count log) ≤ start_of log w
  unfolding start_of
  start_behind w = omega arith

  start_within : (w : ℕ) → w ≤ worker_count log → start_of log w ≤ packed_length log
  unfolding packed_length start_of
  start_within w h = let grows = sum_grows (sections_size log) w (worker_count log) h in omega arith

  -- the sections of each worker end before the log does
  pub end_within : (w : ℕ) → w < worker_count log → start_of log w + sections_size log w ≤ packed_length log
  end_within w h = let next = start_next w in let within = start_within (w + 1) (omega arith) in omega arith

  pub header_within : header_of (worker_count log) ≤ packed_length log
  unfolding packed_length
  header_within = start_behind (worker_count log)

  -- .. and so do the entry of each worker and its events
  pub entry_within : (w : ℕ) → w < worker_count log → (header_of (w + 1) ≤ packed_length log) × (start_of log w + event_size * event_count log w ≤ packed_length log)
  unfolding sections_size
  entry_within w h = let within = header_within in let end = end_within w h in (omega arith, omega arith)

-- a piece, and then another at the place where it ends
pub more_at : (k at : ℕ) (lent a b : List ℕ) → k ≤ length lent → at ≡ k + length a → overwrite at b (overwrite k a lent) ≡ overwrite k (a ++ b) lent
more_at k at lent a b fits place = rw place (overwrite_more k lent a b fits)

-- pieces of a fold written one behind the other, from place k on: w of n are written
pub record Written (f : ℕ → List ℕ) (k : ℕ) (lent : List ℕ) (n w : ℕ) (out : List ℕ) : Type 0 where
  pub few : w ≤ n
  pub long : length out ≡ length lent
  pub holds : out ≡ overwrite k (join_below f w) lent

pub written_none : {f : ℕ → List ℕ} {k : ℕ} {lent : List ℕ} {n : ℕ} → Written f k lent n 0 lent
written_none {f} {k} {lent} = record { few = omega arith; long = refl; holds = sym (rw (join_none f) (overwrite_none k lent)) }

module _ {f : ℕ → List ℕ} {k : ℕ} {lent : List ℕ} {n w : ℕ} {out : List ℕ} (done : Written f k lent n w out) where
  -- the next one, at the place where the last one ends
  pub written_more : w < n → k ≤ length lent → {at : ℕ} → at ≡ k + length (join_below f w) → {left : List ℕ} → left ≡ overwrite at (f w) out → length left ≡ length out
      → Written f k lent n (w + 1) left
  written_more h fits {at} place wrote same =
      record {
        few = omega arith;
        long = same ∙ done.long;
        holds = wrote ∙ rw (done.holds, join_more f w) (more_at k at lent (join_below f w) (f w) fits place);
      }

  pub written_end : n ≤ w → {m : ℕ} → n ≡ m → out ≡ overwrite k (join_below f m) lent
  written_end h size = let all : w ≡ n = le_antisymm done.few h in done.holds ∙ rw (all, size)

-- ---- a log of no more workers, events and checkpoints than there may be
-- the bytes that the sections of a worker have at most
abbrev pub most_bytes : ℕ
most_bytes = event_size * max_events + checkpoint_size * max_checkpoints

pub record Limited (log : Workers) : Type 0 where
  pub few : worker_count log ≤ max_workers
  pub events : (w : ℕ) → event_count log w ≤ max_events
  pub recorded : (w : ℕ) → checkpoint_count log w ≤ max_checkpoints

module _ {log : Workers} (small : Limited log) where
  -- no sum is large, however the sections share their bytes
  size_small : (w : ℕ) → sections_size log w ≤ most_bytes
  unfolding sections_size
  size_small w = omega (arith, small.events w, small.recorded w)

  start_small : (w : ℕ) → start_of log w ≤ header_of max_workers + w * most_bytes
  unfolding start_of
  start_small w = omega (arith, small.few, sum_bound (sections_size log) w most_bytes (λ k h. size_small k))

  -- .. so the start of the next worker's sections fits a `usize`
  pub next_fits : {w start size : ℕ} → w < worker_count log → start ≡ start_of log w → size ≡ sections_size log w → Fits w64 (start + size)
  next_fits {w} h place long = record { fits = omega (arith, small.few, start_small (w + 1), start_next log w) }

  -- .. and the length of the packed log 32 bits
  pub length_small : packed_length log < 4294967296
  unfolding packed_length
  length_small = omega (arith, small.few, start_small (worker_count log))

-- ---- a log that passes the tests 1 to 6
pub limited : (s : List ℕ) → layout_refusal s ≡ 0 → Limited (workers_of s)
limited s ok = record { few = workers_few s ok; events = λ w. (count_field s ok w).1; recorded = λ w. (checkpoints_field s ok w).1 }

module _ (s : List ℕ) (ok : layout_refusal s ≡ 0) where
  module _ (w : ℕ) (h : w < worker_count (workers_of s)) where
    pub parts_long : length (event_section s w) + length (checkpoint_section s w) ≡ sections_size (workers_of s) w
    unfolding sections_size
    parts_long = rw (events_long_lem s ok w h, checkpoints_long s ok w h)

    pub parts_end : start_of (workers_of s) w + length (event_section s w) + length (checkpoint_section s w) ≡ start_of (workers_of s) (w + 1)
    parts_end = let long = parts_long in let next = start_next (workers_of s) w in omega arith

    -- the events and then the checkpoints right behind them
    pub sections_copied : Bytes s → KnownKinds (workers_of s) → (at : ℕ) (out : List ℕ) → at ≤ length out
        → overwrite (at + length (event_section s w)) (checkpoint_section s w) (overwrite at (event_section s w) out) ≡ overwrite at (sections_of (workers_of s) w) out
    sections_copied all known at out fits = rw (sections_bytes s ok w h all known) (overwrite_more at out (event_section s w) (checkpoint_section s w) fits)

-- ---- a log whose packed log has room
-- as much as in another number of bytes that is the same
pub room_same : {s : List ℕ} {lent now : ℕ} → Room s lent → now ≡ lent → Room s now
room_same room same = record { layout = room.layout; kinds = room.kinds; fits = room.fits; enough = rw same room.enough }

-- the sections of worker w, which begin at `start`, end within the longest log and within the bytes lent
pub parts_room : {s : List ℕ} {lent w start : ℕ} → Room s lent → w < worker_count (workers_of s) → start ≡ start_of (workers_of s) w
    → (start + length (event_section s w) + length (checkpoint_section s w) ≤ max_length) × (start + length (event_section s w) + length (checkpoint_section s w) ≤ lent)
parts_room {s} {lent} {w} room h place =
    let end = parts_end s room.layout w h in
    let within = start_within (workers_of s) (w + 1) (omega arith) in
    (omega (arith, room.fits), omega (arith, room.enough))

-- ---- the fields before the entries, written one by one
pub fields_written : (form n size : ℕ) (out : List ℕ)
    → overwrite 4 (bytes_of 4 size) (overwrite 2 (bytes_of 2 n) (overwrite 0 (bytes_of 2 form) out)) ≡ overwrite 0 (field_bytes form n size) out
fields_written form n size out =
    let one = bytes_of 2 form in
    let two = one ++ bytes_of 2 n in
    let long : length one ≡ 2 = length_bytes 2 form in
    let long₂ : length two ≡ 4 = simp (length-append, length_bytes) in
    rw (more_at 0 2 out one (bytes_of 2 n) (omega arith) (omega arith)) (more_at 0 4 out two (bytes_of 4 size) (omega arith) (omega arith))

-- .. then the entries, then the sections: the packed log, and every byte behind it untouched
pub packed_written : (log : Log) (out : List ℕ)
    → overwrite (header_of (worker_count log.workers)) (join_below (sections_of log.workers) (worker_count log.workers))
    (overwrite (header_of 0) (join_below (entry_of log.workers) (worker_count log.workers)) (overwrite 0 (fields_of log) out))
    ≡ onto (packed log) out
unfolding packed overwrite
packed_written log out =
    let first = fields_long log in
    let both = header_long log in
    let entries = join_below (entry_of log.workers) (worker_count log.workers) in
    rw (more_at 0 (header_of 0) out (fields_of log) entries (omega arith) (omega arith))
    (more_at 0 (header_of (worker_count log.workers)) out (fields_of log ++ entries) (join_below (sections_of log.workers) (worker_count log.workers)) (omega arith) (omega arith))
