-- The header of a packed log, number by number, where its sections stand, and how long it is. Assumes nothing.
use mathlib.Core.Path.{◌≡◌, refl, sym, ◌∙◌}
use mathlib.Core.List.{List, [], ◌++◌, append_assoc}
use Prim.Native.Nat.{ℕ, ◌+◌, ◌*◌, ◌^◌, ◌<◌, ◌≤◌}
use native.Mathlib.Nat.{add-zero}
use native.Mathlib.Omega.{arith}
use lib.ListN.{length, length-append}
use lib.Seq.{take_at, drop_at}
use Rattle.ranges.specs.Fold.{join_below}
use Rattle.ranges.proofs.Join.{length_join, join_at}
use Rattle.lent.specs.Lent.{at}
use Rattle.bytes_le.specs.Little.{le, bytes_of, Bytes}
use Rattle.bytes_le.proofs.Little.{le_front, le_behind, length_bytes, last_read, bytes_bytes, bytes_append, bytes_join}
use Rattle.records.specs.Event.{event_size}
use Rattle.records.specs.Checkpoint.{checkpoint_size}
use Rattle.event_log.specs.Model.{Log, Workers, worker_count, event_count, checkpoint_count}
use Rattle.event_log.specs.Layout.{form_field, size_field, length_field, header_of, field}
use Rattle.event_log.specs.Layout.{section}
use Rattle.pack.specs.Packed.{number_at, event_at, checkpoint_at, sections_of, sections_size, start_of, numbers_of, entry_of, packed_length, fields_of, packed}
use Rattle.pack.proofs.Records.{pieces_long, piece_read, events_all_long, checkpoints_all_long, sections_all_long, sections_all_bytes}

-- ---- numbers of 32 bits, one behind the other
module _ (numbers : List ℕ) where
  pub numbers_long : (n : ℕ) → length (join_below (number_at numbers) n) ≡ 4 * n
  unfolding number_at
  numbers_long = pieces_long (number_at numbers) 4 (λ j. length_bytes 4 (at numbers j))

  numbers_bytes : (n : ℕ) → Bytes (join_below (number_at numbers) n)
  unfolding number_at
  numbers_bytes n = bytes_join (number_at numbers) n (λ j h. bytes_bytes 4 (at numbers j))

  -- number j is read where it stands
  number_read : (n j : ℕ) → j < n → at numbers j < 256 ^ 4 → le 4 (join_below (number_at numbers) n) (4 * j) ≡ at numbers j
  unfolding number_at
  number_read n j h small =
      (rw add-zero at (piece_read (number_at numbers) 4 (λ k. length_bytes 4 (at numbers k)) n j h 4 0 (omega arith))) ∙ last_read 4 (at numbers j) [] 0 refl small

-- ---- the entry of worker w
module _ (log : Workers) (w : ℕ) where
  entry_long : length (entry_of log w) ≡ 20
  unfolding entry_of
  entry_long = numbers_long (numbers_of log w) 5

  entry_bytes_lem : Bytes (entry_of log w)
  unfolding entry_of
  entry_bytes_lem = numbers_bytes (numbers_of log w) 5

pub entries_long : (log : Workers) (n : ℕ) → length (join_below (entry_of log) n) ≡ 20 * n
entries_long log = pieces_long (entry_of log) 20 (entry_long log)

-- the sections of worker w begin where those before them end
pub sections_before : (log : Workers) (w : ℕ) → start_of log w ≡ header_of (worker_count log) + length (join_below (sections_of log) w)
unfolding start_of
sections_before log w = rw (length_join (sections_of log) (sections_size log) w (λ k h. sections_all_long log k))

-- the part of a list between two others
section_between : (front part back : List ℕ) (start n : ℕ) → length front ≡ start → length part ≡ n → section (front ++ part ++ back) start n ≡ part
unfolding section
section_between front part back start n from long = rw (append_assoc front part back, drop_at front (part ++ back) start from) (take_at part back n long)

-- ---- the packed bytes of a log
module _ (log : Log) where
  abbrev workers : Workers
  workers = log.workers

  abbrev n : ℕ
  n = worker_count workers

  abbrev fields : List ℕ
  fields = fields_of log

  pub fields_long : length fields ≡ 8
  unfolding fields_of
  fields_long = simp (length-append, length_bytes)

  abbrev header : List ℕ
  header = fields ++ join_below (entry_of workers) n

  pub header_long : length header ≡ header_of n
  header_long = rw (length-append fields (join_below (entry_of workers) n), fields_long, entries_long workers n)

  pub packed_all_bytes : Bytes (packed log)
  unfolding packed fields_of
  packed_all_bytes = search (bytes_append, bytes_bytes, bytes_join, entry_bytes_lem, sections_all_bytes)

  -- the form, the worker count and the length, where each is no larger than its bytes can hold
  in_fields : (width place : ℕ) → place + width ≤ 8 → le width (packed log) place ≡ le width fields place
  unfolding packed
  in_fields width place h =
      let short = fields_long in
      let long = header_long in
      le_front width header (join_below (sections_of workers) n) place (omega arith) ∙ le_front width fields (join_below (entry_of workers) n) place (omega arith)

  pub form_field_lem : log.form < 256 ^ 2 → form_field (packed log) ≡ log.form
  unfolding fields_of
  form_field_lem small =
      let one = length_bytes 2 log.form in
      let long : length (bytes_of 2 log.form ++ bytes_of 2 n) ≡ 4 = simp (length-append, length_bytes) in
      in_fields 2 0 (omega arith) ∙ le_front 2 (bytes_of 2 log.form ++ bytes_of 2 n) (bytes_of 4 (packed_length workers)) 0 (omega arith)
      ∙ le_front 2 (bytes_of 2 log.form) (bytes_of 2 n) 0 (omega arith) ∙ last_read 2 log.form [] 0 refl small

  pub size_field_lem : n < 256 ^ 2 → size_field (packed log) ≡ n
  unfolding fields_of
  size_field_lem small =
      let long : length (bytes_of 2 log.form ++ bytes_of 2 n) ≡ 4 = simp (length-append, length_bytes) in
      in_fields 2 2 (omega arith) ∙ le_front 2 (bytes_of 2 log.form ++ bytes_of 2 n) (bytes_of 4 (packed_length workers)) 2 (omega arith)
      ∙ last_read 2 n (bytes_of 2 log.form) 2 (length_bytes 2 log.form) small

  pub length_field_lem : packed_length workers < 256 ^ 4 → length_field (packed log) ≡ packed_length workers
  unfolding fields_of
  length_field_lem small =
      let long : length (bytes_of 2 log.form ++ bytes_of 2 n) ≡ 4 = simp (length-append, length_bytes) in
      in_fields 4 4 (omega arith) ∙ last_read 4 (packed_length workers) (bytes_of 2 log.form ++ bytes_of 2 n) 4 long small

  -- number j of the entry of worker w
  pub entry_field : (w j : ℕ) → w < n → j < 5 → at (numbers_of workers w) j < 256 ^ 4 → field (packed log) w j ≡ at (numbers_of workers w) j
  unfolding packed field entry_of
  entry_field w j h l small =
      let place = 20 * w + 4 * j in
      let first = fields_long in
      let long = header_long in
      let outside : header_of w + 4 * j ≡ length fields + place = omega arith in
      le_front 4 header (join_below (sections_of workers) n) (header_of w + 4 * j) (omega arith)
      ∙ rw outside (le_behind 4 fields (join_below (entry_of workers) n) place)
      ∙ piece_read (entry_of workers) 20 (entry_long workers) n w h 4 (4 * j) (omega arith) ∙ number_read (numbers_of workers w) 5 j l small

  -- ---- the sections
  pub packed_all_long : length (packed log) ≡ packed_length workers
  unfolding packed packed_length
  packed_all_long = rw (length-append header (join_below (sections_of workers) n), header_long) (sym (sections_before workers n))

  module _ (w : ℕ) (h : w < n) where
    abbrev before : List ℕ
    before = header ++ join_below (sections_of workers) w

    abbrev events : List ℕ
    events = join_below (event_at workers w) (event_count workers w)

    abbrev checkpoints : List ℕ
    checkpoints = join_below (checkpoint_at workers w) (checkpoint_count workers w)

    before_long : length before ≡ start_of workers w
    before_long = rw (length-append header (join_below (sections_of workers) w), header_long) (sym (sections_before workers w))

    split : (rest : List ℕ) × (packed log ≡ before ++ events ++ checkpoints ++ rest)
    unfolding packed sections_of
    split = let found = join_at (sections_of workers) n w h in (found.0, rw found.1 (simp append_assoc))

    pub events_at : section (packed log) (start_of workers w) (event_size * event_count workers w) ≡ events
    events_at =
        rw (split.1, append_assoc (before ++ events) checkpoints split.0)
        (section_between before events (checkpoints ++ split.0) _ _ before_long (events_all_long workers w (event_count workers w)))

    pub checkpoints_at : section (packed log) (start_of workers w + event_size * event_count workers w) (checkpoint_size * checkpoint_count workers w) ≡ checkpoints
    checkpoints_at =
        let long : length (before ++ events) ≡ start_of workers w + event_size * event_count workers w =
        rw (length-append before events, before_long, events_all_long workers w (event_count workers w)) in
        rw split.1 (section_between (before ++ events) checkpoints split.0 _ _ long (checkpoints_all_long workers w (checkpoint_count workers w)))
