-- The records of a packed log have their sizes whatever their numbers, and those of a log of bytes, written again, are the bytes of its
-- sections. Assumes nothing.
use mathlib.Core.Path.{◌≡◌, sym, ◌∙◌}
use mathlib.Core.Logic.{⊎_elim, ◌≢◌}
use mathlib.Core.List.{List, ◌++◌}
use Prim.Native.Nat.{ℕ, zero, suc, ◌+◌, ◌*◌, ◌<◌, ◌≤◌}
use native.Mathlib.Nat.{mul-zero, mul-suc}
use native.Mathlib.Numerals.{add-one}
use native.Mathlib.Omega.{arith}
use lib.ListN.{length, take, drop, length-append, get_or-eq_default, length-take}
use lib.Seq.{take-add, drop-drop, take_all, get_or-take, get_or-drop}
use Rattle.ranges.specs.Fold.{join_below}
use Rattle.ranges.proofs.Order.{lt_or_le}
use Rattle.ranges.proofs.Join.{length_join, join_at}
use Rattle.ranges.proofs.Sum.{sum_constant}
use Rattle.bytes_le.specs.Little.{le, bytes_of, Bytes}
use Rattle.bytes_le.proofs.Little.{le_front, le_behind, length_bytes, bytes_bytes, bytes_append, bytes_join, read_bytes, number_below_lem}
use Rattle.records.specs.declared.Event.{Event}
use Rattle.records.specs.declared.Checkpoint.{Checkpoint}
use Rattle.records.specs.declared.Kind.TheVariants.{Rest}
use Rattle.event_log.specs.Header.{layout_refusal}
use Rattle.event_log.specs.Layout.{form_field, size_field, field, event_count_field, checkpoint_count_field, section, event_section, checkpoint_section, workers_of}
use Rattle.records.specs.Event.{event_size, kind_byte, event_record}
use Rattle.records.specs.Checkpoint.{checkpoint_size, identifier_word, checkpoint_record}
use Rattle.event_log.specs.Model.{Workers, worker_count, event_count, event_of, checkpoint_count, checkpoint_of}
use Rattle.event_log.proofs.Readable.{readable}
use Rattle.event_log.proofs.Read.{section_length, size_read, count_read, checkpoints_read, event_read, checkpoint_read}
use Rattle.records.proofs.EventKinds.{kind_table}
use Rattle.records.proofs.Marked.{word_back}
use Rattle.pack.specs.Inner.Room.{KnownKinds}
use Rattle.pack.specs.Packed.{event_bytes, checkpoint_bytes, event_at, checkpoint_at, sections_of, sections_size}

-- ---- pieces of one size, one behind the other
module _ (f : ℕ → List ℕ) (size : ℕ) (each : (k : ℕ) → length (f k) ≡ size) where
  pub pieces_long : (n : ℕ) → length (join_below f n) ≡ size * n
  pieces_long n = length_join f (λ (k : ℕ). size) n (λ k h. each k) ∙ sum_constant size n

  -- a number of piece k is read where the piece stands
  pub piece_read : (n k : ℕ) → k < n → (width at : ℕ) → at + width ≤ size → le width (join_below f n) (size * k + at) ≡ le width (f k) at
  piece_read n k h width at fits =
      let found = join_at f n k h in
      let before = pieces_long k in
      let mine = each k in
      let upto : length (join_below f k ++ f k) ≡ size * k + size = simp length-append (omega arith) in
      rw found.1 (le_front width (join_below f k ++ f k) found.0 (size * k + at) (omega arith) ∙ rw (← before) (le_behind width (join_below f k) (f k) at))

-- ---- the records of every log: each has its size and is bytes, whatever its numbers
pub event_long : (e : Event) → length (event_bytes e) ≡ event_size
unfolding event_bytes
event_long e = simp (length-append, length_bytes)

pub checkpoint_long : (c : Checkpoint) → length (checkpoint_bytes c) ≡ checkpoint_size
unfolding checkpoint_bytes
checkpoint_long c = simp (length-append, length_bytes)

event_all_bytes : (e : Event) → Bytes (event_bytes e)
unfolding event_bytes
event_all_bytes e = search (bytes_append, bytes_bytes)

checkpoint_all_bytes : (c : Checkpoint) → Bytes (checkpoint_bytes c)
unfolding checkpoint_bytes
checkpoint_all_bytes c = search (bytes_append, bytes_bytes)

module _ (log : Workers) (w : ℕ) where
  pub events_all_long : (k : ℕ) → length (join_below (event_at log w) k) ≡ event_size * k
  unfolding event_at
  events_all_long = pieces_long (event_at log w) event_size (λ k. event_long (event_of log w (k + 1)))

  pub checkpoints_all_long : (k : ℕ) → length (join_below (checkpoint_at log w) k) ≡ checkpoint_size * k
  unfolding checkpoint_at
  checkpoints_all_long = pieces_long (checkpoint_at log w) checkpoint_size (λ k. checkpoint_long (checkpoint_of log w (k + 1)))

  pub sections_all_long : length (sections_of log w) ≡ sections_size log w
  unfolding sections_of sections_size
  sections_all_long =
      let events = events_all_long (event_count log w) in let checkpoints = checkpoints_all_long (checkpoint_count log w) in simp length-append (omega arith)

  pub sections_all_bytes : Bytes (sections_of log w)
  unfolding sections_of event_at checkpoint_at
  sections_all_bytes = search (bytes_append, bytes_join, event_all_bytes, checkpoint_all_bytes)

-- ---- a section of bytes
module _ (s : List ℕ) where
  -- two sections, one right behind the other
  section_join : (start a b : ℕ) → section s start a ++ section s (start + a) b ≡ section s start (a + b)
  unfolding section
  section_join start a b = sym (take-add a b (drop start s) ∙ rw (drop-drop a start s))

  pub section_bytes : Bytes s → (start bytes : ℕ) → Bytes (section s start bytes)
  unfolding section
  section_bytes all start bytes i =
      ⊎_elim
      (λ l. rw (get_or-take bytes (drop start s) i 0 l, get_or-drop start s i 0) (all (start + i)))
      (λ l. let short = length-take bytes (drop start s) in rw (get_or-eq_default (take bytes (drop start s)) 0 {n = i} (omega arith)) (omega arith))
      (lt_or_le i bytes)

  -- a number that is read and written again
  number : Bytes s → (width at : ℕ) → at + width ≤ length s → bytes_of width (le width s at) ≡ section s at width
  unfolding section
  number all width at h = read_bytes width s at all h

  -- records of one size, one behind the other
  records_join : (f : ℕ → List ℕ) (size n : ℕ) → ((k : ℕ) → k < n → f k ≡ section s (size * k) size) → join_below f n ≡ section s 0 (size * n)
  unfolding join_below section
  records_join f size zero all = rw (mul-zero size)
  records_join f size (suc n) all =
      rw (records_join f size n (λ k h. all k (omega arith)), all n (omega arith), mul-suc size n) (sym (take-add (size * n) size s))

  -- .. where there are no other bytes
  records_all : (f : ℕ → List ℕ) (size n : ℕ) → length s ≡ size * n → ((k : ℕ) → k < n → f k ≡ section s (size * k) size) → join_below f n ≡ s
  unfolding section
  records_all f size n long all = records_join f size n all ∙ take_all (size * n) s (omega arith)

  event_bytes_lem : Bytes s → (k : ℕ) → event_size * k + event_size ≤ length s → (event_record s k).kind ≢ Rest → event_bytes (event_record s k) ≡ section s (event_size * k) event_size
  unfolding event_bytes event_record
  event_bytes_lem all k h known =
      let at = event_size * k in
      rw (kind_table.back (kind_byte s k) known, number all 1 at (omega arith), number all 1 (at + 1) (omega arith), number all 2 (at + 2) (omega arith), number all 4 (at + 4) (omega arith), number all 4 (at + 8) (omega arith))
      (rw (section_join at 1 1, section_join at 2 2, section_join at 4 4) (section_join at 8 4))

  checkpoint_bytes_lem : Bytes s → (form k : ℕ) → checkpoint_size * k + checkpoint_size ≤ length s
      → checkpoint_bytes (checkpoint_record form s k) ≡ section s (checkpoint_size * k) checkpoint_size
  unfolding checkpoint_bytes checkpoint_record
  checkpoint_bytes_lem all form k h =
      let at = checkpoint_size * k in
      rw (word_back form (identifier_word s k) (le 4 s at) (number_below_lem 4 s (at + 4) all), number all 4 at (omega arith), number all 4 (at + 4) (omega arith))
      (section_join at 4 4)

-- ---- the sections of worker w of a log that passes the tests 1 to 6
module _ (s : List ℕ) (ok : layout_refusal s ≡ 0) (w : ℕ) (h : w < worker_count (workers_of s)) where
  inside : w < size_field s
  inside = rw (size_read s) at h

  pub events_long_lem : length (event_section s w) ≡ event_size * event_count (workers_of s) w
  unfolding event_section
  events_long_lem = rw (count_read s w inside) (section_length s _ _ ((readable s ok).entry w inside).events_end)

  pub checkpoints_long : length (checkpoint_section s w) ≡ checkpoint_size * checkpoint_count (workers_of s) w
  unfolding checkpoint_section
  checkpoints_long = rw (checkpoints_read s w inside) (section_length s _ _ ((readable s ok).entry w inside).checkpoints_end)

  module _ (all : Bytes s) where
    checkpoints_each : (k : ℕ) → k < checkpoint_count (workers_of s) w → checkpoint_at (workers_of s) w k ≡ section (checkpoint_section s w) (checkpoint_size * k) checkpoint_size
    unfolding checkpoint_at checkpoint_section
    checkpoints_each k l =
        let counted : k < field s w checkpoint_count_field = rw (checkpoints_read s w inside) at l in
        let long = checkpoints_long in
        rw (add-one, checkpoint_read s w k inside counted) (checkpoint_bytes_lem (checkpoint_section s w) (section_bytes s all _ _) (form_field s) k (omega arith))

    pub checkpoints_bytes : join_below (checkpoint_at (workers_of s) w) (checkpoint_count (workers_of s) w) ≡ checkpoint_section s w
    checkpoints_bytes = records_all (checkpoint_section s w) (checkpoint_at (workers_of s) w) checkpoint_size (checkpoint_count (workers_of s) w) checkpoints_long checkpoints_each

    -- the events too, where all are of the three kinds
    module _ (known : KnownKinds (workers_of s)) where
      events_each : (k : ℕ) → k < event_count (workers_of s) w → event_at (workers_of s) w k ≡ section (event_section s w) (event_size * k) event_size
      unfolding event_at event_section
      events_each k l =
          let counted : k < field s w event_count_field = rw (count_read s w inside) at l in
          let long = events_long_lem in
          let kind = known w (suc k) (omega arith) l in
          rw (add-one, event_read s w k inside counted) (event_bytes_lem (event_section s w) (section_bytes s all _ _) k (omega arith) (rw (event_read s w k inside counted) at kind))

      pub events_bytes : join_below (event_at (workers_of s) w) (event_count (workers_of s) w) ≡ event_section s w
      events_bytes = records_all (event_section s w) (event_at (workers_of s) w) event_size (event_count (workers_of s) w) events_long_lem events_each

      pub sections_bytes : sections_of (workers_of s) w ≡ event_section s w ++ checkpoint_section s w
      unfolding sections_of
      sections_bytes = rw (events_bytes, checkpoints_bytes)
