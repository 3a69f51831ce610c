-- The packed bytes of any log whose numbers have room in their bytes are read as that log, whatever its form, its kinds and its length. Where
-- its form is one that a call takes and it has 1 to `max_workers` workers, of the refusals 2 to 6 they can have 5 alone. Assumes nothing.
use mathlib.Core.Path.{◌≡◌, refl, sym, ◌∙◌}
use mathlib.Core.Bool.{Bool, true, false, cond, ◌||◌}
use mathlib.Core.List.{List, [], ◌++◌}
use Prim.Native.Nat.{ℕ, zero, suc, ◌+◌, ◌*◌, ◌^◌, ◌<◌, ◌≤◌}
use native.Mathlib.Nat.{add-zero}
use native.Mathlib.Numerals.{add-one}
use native.Mathlib.Omega.{arith}
use borrow.Author.Tests.{le-ltb, eq-eqb, ne_eqb}
use lib.Dec.{ltb}
use lib.ListN.{length, length-append}
use Rattle.ranges.specs.Fold.{any_below, tabulate, join_below}
use Rattle.ranges.proofs.Any.{any_same, any_every}
use Rattle.ranges.proofs.Tabulate.{tabulate_list}
use Rattle.lent.specs.Lent.{at}
use Rattle.bytes_le.specs.Little.{le, bytes_of, Bytes}
use Rattle.bytes_le.proofs.Little.{le_front, length_bytes, last_read, number_below_lem}
use Rattle.records.specs.declared.Event.{Event}
use Rattle.records.specs.declared.Checkpoint.{Checkpoint}
use Rattle.records.specs.Kind.{kind_number}
use Rattle.records.specs.Mark.{top_bit, has_mark, with_mark}
use Rattle.records.specs.Forms.{is_form, marks_withdrawn}
use Rattle.records.specs.Event.{no_event, event_size, event_record}
use Rattle.records.specs.Checkpoint.{initial, checkpoint_size, identifier_word, checkpoint_record}
use Rattle.records.proofs.EventKinds.{number_read, number_small}
use Rattle.records.proofs.Marked.{identifier_low, word_back, identifier_read, mark_read}
use Rattle.event_log.specs.Limits.{max_workers, max_events, max_checkpoints, max_role}
use Rattle.event_log.specs.Header.{form_fault, size_fault, header_fault, limit_fault, outside, section_fault, entry_fault, some_entry, entries_refusal, header_refusal}
use Rattle.event_log.specs.Model.{Log, Workers, no_worker, worker_count, worker, role_of, event_count, event_of, checkpoint_count, checkpoint_of}
use Rattle.event_log.specs.Layout.{form_field, size_field, header_of, field, event_count_field, event_offset_field, checkpoint_count_field, checkpoint_offset_field, role_field}
use Rattle.event_log.specs.Layout.{event_section, checkpoint_section, worker_of, workers_of, log_of}
use Rattle.event_log.proofs.Read.{worker_within, worker_within', size_read, role_read, count_read, checkpoints_read, event_read, checkpoint_read}
use Rattle.pack.specs.Packed.{event_bytes, checkpoint_bytes, event_at, checkpoint_at, sections_size, start_of, numbers_of, packed_length, packed}
use Rattle.pack.proofs.Records.{piece_read, event_long, checkpoint_long, section_bytes}
use Rattle.pack.proofs.Header.{form_field_lem, size_field_lem, length_field_lem, entry_field, packed_all_long, events_at, checkpoints_at}
use Rattle.pack.proofs.Writing.{start_behind, end_within, header_within}

-- ---- what has room in its bytes
-- the numbers of an event, but for its kind, whose number always has
pub record EventFits (e : Event) : Type 0 where
  pub peer : e.peer < 256
  pub spare : e.spare < 65536
  pub send : e.send < 4294967296
  pub stamp : e.stamp < 4294967296

-- the numbers of a checkpoint, whose mark is as the form of its log has it
pub record CheckpointFits (form : ℕ) (c : Checkpoint) : Type 0 where
  pub index : c.index < 4294967296
  pub word : with_mark c < 4294967296
  pub low : marks_withdrawn form ≡ true → c.identifier < top_bit
  pub unmarked : marks_withdrawn form ≡ false → c.withdrawn ≡ false

-- the numbers of a log, which may have any form and be longer than a log may be
pub record LogFits (log : Log) : Type 0 where
  pub form : log.form < 65536
  pub few : worker_count log.workers < 65536
  pub short : packed_length log.workers < 4294967296
  pub roles : (w : ℕ) → w < worker_count log.workers → role_of log.workers w < 4294967296
  pub events : (w k : ℕ) → k < event_count log.workers w → EventFits (event_of log.workers w (k + 1))
  pub checkpoints : (w k : ℕ) → k < checkpoint_count log.workers w → CheckpointFits log.form (checkpoint_of log.workers w (k + 1))

-- "event count, checkpoint count or role over its limit": of worker w
unfoldable pub over_limit : Workers → ℕ → Bool
over_limit log w = ltb max_events (event_count log w) || ltb max_checkpoints (checkpoint_count log w) || ltb max_role (role_of log w)

-- ---- one event
module _ (e : Event) (fits : EventFits e) where
  -- its bytes up to the end of each number
  abbrev kind_end : List ℕ
  kind_end = bytes_of 1 (kind_number e.kind)

  abbrev peer_end : List ℕ
  peer_end = kind_end ++ bytes_of 1 e.peer

  abbrev spare_end : List ℕ
  spare_end = peer_end ++ bytes_of 2 e.spare

  abbrev send_end : List ℕ
  send_end = spare_end ++ bytes_of 4 e.send

  peer_long : length peer_end ≡ 2
  peer_long = simp (length-append, length_bytes)

  spare_long : length spare_end ≡ 4
  spare_long = simp (length-append, length_bytes)

  send_long : length send_end ≡ 8
  send_long = simp (length-append, length_bytes)

  module _ (width place : ℕ) where
    in_send : place + width ≤ 8 → le width (event_bytes e) place ≡ le width send_end place
    unfolding event_bytes
    in_send h = let long = send_long in le_front width send_end (bytes_of 4 e.stamp) place (omega arith)

    in_spare : place + width ≤ 4 → le width (event_bytes e) place ≡ le width spare_end place
    in_spare h = let long = spare_long in in_send (omega arith) ∙ le_front width spare_end (bytes_of 4 e.send) place (omega arith)

    in_peer : place + width ≤ 2 → le width (event_bytes e) place ≡ le width peer_end place
    in_peer h = let long = peer_long in in_spare (omega arith) ∙ le_front width peer_end (bytes_of 2 e.spare) place (omega arith)

  kind_at : le 1 (event_bytes e) 0 ≡ kind_number e.kind
  kind_at =
      let long = length_bytes 1 (kind_number e.kind) in
      in_peer 1 0 (omega arith) ∙ le_front 1 kind_end (bytes_of 1 e.peer) 0 (omega arith) ∙ last_read 1 (kind_number e.kind) [] 0 refl (number_small e.kind)

  stamp_at : le 4 (event_bytes e) 8 ≡ e.stamp
  unfolding event_bytes
  stamp_at = last_read 4 e.stamp send_end 8 send_long fits.stamp

  -- read from where it stands
  event_back : (part : List ℕ) (k : ℕ) → ((width place : ℕ) → place + width ≤ event_size → le width part (event_size * k + place) ≡ le width (event_bytes e) place)
      → event_record part k ≡ e
  unfolding event_record
  event_back part k same =
      rw (
        (rw add-zero at (same 1 0 (omega arith))) ∙ kind_at,
        number_read e.kind,
        same 1 1 (omega arith) ∙ in_peer 1 1 (omega arith) ∙ last_read 1 e.peer kind_end 1 (length_bytes 1 (kind_number e.kind)) fits.peer,
        same 2 2 (omega arith) ∙ in_spare 2 2 (omega arith) ∙ last_read 2 e.spare peer_end 2 peer_long fits.spare,
        same 4 4 (omega arith) ∙ in_send 4 4 (omega arith) ∙ last_read 4 e.send spare_end 4 spare_long fits.send,
        same 4 8 (omega arith) ∙ stamp_at,
      )

-- ---- one checkpoint of a log of this form
module _ (form : ℕ) (c : Checkpoint) (fits : CheckpointFits form c) where
  index_at : le 4 (checkpoint_bytes c) 0 ≡ c.index
  unfolding checkpoint_bytes
  index_at =
      let long = length_bytes 4 c.index in
      le_front 4 (bytes_of 4 c.index) (bytes_of 4 (with_mark c)) 0 (omega arith) ∙ last_read 4 c.index [] 0 refl fits.index

  word_at : le 4 (checkpoint_bytes c) 4 ≡ with_mark c
  unfolding checkpoint_bytes
  word_at = last_read 4 (with_mark c) (bytes_of 4 c.index) 4 (length_bytes 4 c.index) fits.word

  checkpoint_back : (part : List ℕ) (k : ℕ)
      → ((width place : ℕ) → place + width ≤ checkpoint_size → le width part (checkpoint_size * k + place) ≡ le width (checkpoint_bytes c) place)
      → checkpoint_record form part k ≡ c
  unfolding checkpoint_record
  checkpoint_back part k same =
      rw (
        (rw add-zero at (same 4 0 (omega arith))) ∙ index_at,
        same 4 4 (omega arith) ∙ word_at,
        identifier_read form c fits.low fits.unmarked,
        mark_read form c fits.low fits.unmarked,
      )

-- ---- a log
module _ (log : Log) (fits : LogFits log) where
  abbrev workers : Workers
  workers = log.workers

  abbrev n : ℕ
  n = worker_count workers

  abbrev file : List ℕ
  file = packed log

  same_form : form_field file ≡ log.form
  same_form = form_field_lem log fits.form

  same_size : size_field file ≡ n
  same_size = size_field_lem log fits.few

  module _ (w : ℕ) (h : w < n) where
    -- each number of its entry has room
    small : (j : ℕ) → at (numbers_of workers w) j < 4294967296
    unfolding sections_size numbers_of
    small j =
        let end = end_within workers w h in
        let short = fits.short in
        go j (omega arith) (omega arith) (omega arith) (omega arith)
      where
        go : (j : ℕ) → event_count workers w < 4294967296 → start_of workers w < 4294967296 → checkpoint_count workers w < 4294967296
            → start_of workers w + event_size * event_count workers w < 4294967296 → at (numbers_of workers w) j < 4294967296
        go zero a b c d = a
        go (suc zero) a b c d = b
        go (suc (suc zero)) a b c d = c
        go (suc (suc (suc zero))) a b c d = d
        go (suc (suc (suc (suc zero)))) a b c d = fits.roles w h
        go (suc (suc (suc (suc (suc j))))) a b c d = omega arith

    same_count : field file w event_count_field ≡ event_count workers w
    unfolding numbers_of
    same_count = entry_field log w 0 h (omega arith) (small 0)

    same_start : field file w event_offset_field ≡ start_of workers w
    unfolding numbers_of
    same_start = entry_field log w 1 h (omega arith) (small 1)

    same_checkpoints : field file w checkpoint_count_field ≡ checkpoint_count workers w
    unfolding numbers_of
    same_checkpoints = entry_field log w 2 h (omega arith) (small 2)

    same_behind : field file w checkpoint_offset_field ≡ start_of workers w + event_size * event_count workers w
    unfolding numbers_of
    same_behind = entry_field log w 3 h (omega arith) (small 3)

    same_role : field file w role_field ≡ role_of workers w
    unfolding numbers_of
    same_role = entry_field log w 4 h (omega arith) (small 4)

    -- its records, and so its sections
    event_each : (k : ℕ) → k < event_count workers w → event_record (join_below (event_at workers w) (event_count workers w)) k ≡ event_of workers w (k + 1)
    unfolding event_at
    event_each k l =
        event_back (event_of workers w (k + 1)) (fits.events w k l) _ k
        (piece_read (event_at workers w) event_size (λ j. event_long (event_of workers w (j + 1))) (event_count workers w) k l)

    checkpoint_each : (k : ℕ) → k < checkpoint_count workers w
        → checkpoint_record log.form (join_below (checkpoint_at workers w) (checkpoint_count workers w)) k ≡ checkpoint_of workers w (k + 1)
    unfolding checkpoint_at
    checkpoint_each k l =
        checkpoint_back log.form (checkpoint_of workers w (k + 1)) (fits.checkpoints w k l) _ k
        (piece_read (checkpoint_at workers w) checkpoint_size (λ j. checkpoint_long (checkpoint_of workers w (j + 1))) (checkpoint_count workers w) k l)

    events_back : tabulate (event_record (event_section file w)) (event_count workers w) ≡ (worker workers w).events
    unfolding event_section event_count event_of
    events_back =
        rw (same_start, same_count, events_at log w h)
        (sym (tabulate_list _ (event_count workers w) no_event (worker workers w).events refl (λ k l. sym (rw add-one at (event_each k l)))))

    checkpoints_back : tabulate (checkpoint_record log.form (checkpoint_section file w)) (checkpoint_count workers w) ≡ (worker workers w).checkpoints
    unfolding checkpoint_section checkpoint_count checkpoint_of
    checkpoints_back =
        rw (same_behind, same_checkpoints, checkpoints_at log w h)
        (sym (tabulate_list _ (checkpoint_count workers w) initial (worker workers w).checkpoints refl (λ k l. sym (rw add-one at (checkpoint_each k l)))))

    same_worker : worker_of file w ≡ worker workers w
    unfolding worker_of role_of
    same_worker = rw (same_form, same_role, same_count, same_checkpoints, events_back, checkpoints_back)

  pub read_packed : log_of file ≡ log
  unfolding workers_of worker_count worker
  read_packed = rw (same_form, same_size, ← tabulate_list (worker_of file) n no_worker workers refl (λ w h. sym (same_worker w h)))

  -- ---- its refusals: 5 is of the counts and the roles, and no section begins inside the header or passes the end
  limits : (w : ℕ) → w < n → entry_fault 5 file w ≡ over_limit workers w
  unfolding entry_fault limit_fault over_limit
  limits w h = rw (same_count w h, same_checkpoints w h, same_role w h)

  inside : (w : ℕ) → w < n → entry_fault 6 file w ≡ false
  unfolding entry_fault section_fault outside sections_size
  inside w h =
      let start = start_of workers w in
      let behind = start + event_size * event_count workers w in
      let from = start_behind workers w in
      let end = end_within workers w h in
      rw (
        same_size,
        same_start w h,
        same_count w h,
        same_behind w h,
        same_checkpoints w h,
        packed_all_long log,
        le-ltb start (header_of n) from,
        le-ltb (packed_length workers) behind (omega arith),
        le-ltb behind (header_of n) (omega arith),
        le-ltb (packed_length workers) (behind + checkpoint_size * checkpoint_count workers w) (omega arith),
      )

  pub packed_header : is_form log.form ≡ true → 0 < n → n ≤ max_workers → header_refusal file ≡ cond (any_below (over_limit workers) n) 5 0
  unfolding form_fault size_fault header_fault entries_refusal some_entry
  packed_header form some few =
      let within = header_within workers in
      rw (
        same_form,
        same_size,
        form,
        ne_eqb n 0 (λ e. let no : ⊥ = omega arith in no),
        le-ltb max_workers n few,
        length_field_lem log fits.short,
        packed_all_long log,
        eq-eqb (packed_length workers) (packed_length workers) refl,
        le-ltb (packed_length workers) (header_of n) within,
        any_same (entry_fault 5 file) (over_limit workers) n limits,
        any_every (entry_fault 6 file) n inside,
      )

-- ---- the log that bytes hold fits, where its packed log does
module _ (s : List ℕ) (all : Bytes s) (short : packed_length (workers_of s) < 4294967296) where
  event_fits : (w k : ℕ) → k < event_count (workers_of s) w → EventFits (event_of (workers_of s) w (k + 1))
  unfolding event_section event_record
  event_fits w k h =
      let within : w < size_field s = rw (size_read s) at (worker_within (workers_of s) w k h) in
      let number : (width place : ℕ) → le width (event_section s w) place < 256 ^ width = λ width place. number_below_lem width _ place (section_bytes s all _ _) in
      rw (add-one, event_read s w k within (rw (count_read s w within) at h)) (record { peer = number 1 _; spare = number 2 _; send = number 4 _; stamp = number 4 _ })

  checkpoint_fits : (w k : ℕ) → k < checkpoint_count (workers_of s) w → CheckpointFits (form_field s) (checkpoint_of (workers_of s) w (k + 1))
  unfolding checkpoint_section checkpoint_record has_mark
  checkpoint_fits w k h =
      let within : w < size_field s = rw (size_read s) at (worker_within' (workers_of s) w k h) in
      let number : (place : ℕ) → le 4 (checkpoint_section s w) place < 4294967296 = λ place. number_below_lem 4 _ place (section_bytes s all _ _) in
      let word = identifier_word (checkpoint_section s w) k in
      rw (add-one, checkpoint_read s w k within (rw (checkpoints_read s w within) at h))
      (record {
        index = number _;
        word = rw (word_back (form_field s) word _ (number _)) (number _);
        low = identifier_low (form_field s) word;
        unmarked = λ e. rw e;
      })

  pub read_fits : LogFits (log_of s)
  unfolding field
  read_fits =
      record {
        form = number_below_lem 2 s 0 all;
        few = rw (size_read s) (number_below_lem 2 s 2 all);
        short = short;
        roles = λ w h. rw (role_read s w (rw (size_read s) at h)) (number_below_lem 4 s _ all);
        events = event_fits;
        checkpoints = checkpoint_fits;
      }
