-- The model of a log read off its bytes: what a reader of the header and of the records has to show.
-- Assumes nothing.
use mathlib.Core.Path.{◌≡◌, refl, sym, ◌∙◌, ap}
use mathlib.Core.Bool.{true}
use mathlib.Core.Logic.{⊎_elim, ◌≢◌}
use mathlib.Core.List.{List, ◌∷◌}
use Prim.Native.Nat.{ℕ, zero, suc, ◌+◌, ◌-◌, ◌*◌, ◌<◌, ◌≤◌}
use Rattle.ranges.proofs.Order.{lt_or_le, eq_or_ne}
use native.Mathlib.Omega.{arith}
use borrow.Author.Tests.{le-leb, lt-leb}
use lib.ListN.{length, drop, length-take, length-drop, get_or-eq_default}
use Rattle.ranges.proofs.Tabulate.{length_tabulate, get_d_tabulate}
use Rattle.event_log.specs.Model.{Workers, Worker, no_worker, worker_count, worker, role_of, event_count, event_of, checkpoint_count, checkpoint_of}
use Rattle.records.specs.Event.{no_event, event_size, event_record}
use Rattle.records.specs.Checkpoint.{initial, checkpoint_size, checkpoint_record}
use Rattle.records.specs.Forms.{marks_withdrawn}
use Rattle.records.specs.Mark.{top_bit}
use Rattle.event_log.specs.Limits.{max_workers, max_events, max_checkpoints, max_role}
use Rattle.event_log.specs.Header.{layout_refusal}
use Rattle.records.proofs.Marked.{identifier_low}
use Rattle.event_log.proofs.Readable.{Entry, readable}
use Rattle.event_log.specs.Layout.{form_field, size_field, header_of, field, entry_or_zero, event_count_field, event_offset_field, checkpoint_count_field, checkpoint_offset_field, role_field}
use Rattle.event_log.specs.Layout.{section, event_start, event_section, checkpoint_section, worker_of, workers_of}

-- ---- every log
module _ (log : Workers) where
  -- past the last worker there is none
  pub worker_past : (w : ℕ) → worker_count log ≤ w → worker log w ≡ no_worker
  unfolding worker_count worker
  worker_past w h = get_or-eq_default log no_worker h

  pub event_none : (w : ℕ) → event_of log w 0 ≡ no_event
  unfolding event_of
  event_none w = refl

  pub event_past : (w x : ℕ) → event_count log w < x → event_of log w x ≡ no_event
  unfolding event_of event_count
  event_past w x h = get_or-eq_default (no_event ∷ (worker log w).events) no_event h

  pub checkpoint_initial : (w : ℕ) → checkpoint_of log w 0 ≡ initial
  unfolding checkpoint_of
  checkpoint_initial w = refl

  pub checkpoint_past : (w c : ℕ) → checkpoint_count log w < c → checkpoint_of log w c ≡ initial
  unfolding checkpoint_of checkpoint_count
  checkpoint_past w c h = get_or-eq_default (initial ∷ (worker log w).checkpoints) initial h

  pub count_past : (w : ℕ) → worker_count log ≤ w → event_count log w ≡ 0
  unfolding event_count
  count_past w h = rw (worker_past w h)

  pub checkpoints_past : (w : ℕ) → worker_count log ≤ w → checkpoint_count log w ≡ 0
  unfolding checkpoint_count
  checkpoints_past w h = rw (worker_past w h)

  -- a worker that is not there has no events
  pub event_outside : (w x : ℕ) → worker_count log ≤ w → event_of log w x ≡ no_event
  event_outside w x h = ⊎_elim (λ none. rw none (event_none w)) (λ some. let z = count_past w h in event_past w x (omega arith)) (eq_or_ne x 0)

  pub role_past : (w : ℕ) → worker_count log ≤ w → role_of log w ≡ 0
  unfolding role_of
  role_past w h = ap (λ (v : Worker). v.role) (worker_past w h)

-- an event or a checkpoint of a worker: the worker is one of the log's
pub worker_within : (log : Workers) (w k : ℕ) → k < event_count log w → w < worker_count log
worker_within log w k h = ⊎_elim (λ l. l) (λ l. let z = count_past log w l in let no : ⊥ = omega arith in absurd no) (lt_or_le w (worker_count log))

pub worker_within' : (log : Workers) (w k : ℕ) → k < checkpoint_count log w → w < worker_count log
worker_within' log w k h = ⊎_elim (λ l. l) (λ l. let z = checkpoints_past log w l in let no : ⊥ = omega arith in absurd no) (lt_or_le w (worker_count log))

-- ---- the log that bytes hold
module _ (s : List ℕ) where
  -- a section within the bytes has all of its own
  pub section_length : (start bytes : ℕ) → start + bytes ≤ length s → length (section s start bytes) ≡ bytes
  unfolding section
  section_length start bytes h = length-take bytes (drop start s) ∙ rw (length-drop start s) (omega arith)

  pub size_read : worker_count (workers_of s) ≡ size_field s
  unfolding worker_count workers_of
  size_read = length_tabulate (worker_of s) (size_field s)

  worker_read : (w : ℕ) → w < size_field s → worker (workers_of s) w ≡ worker_of s w
  unfolding worker workers_of
  worker_read w h = get_d_tabulate (worker_of s) (size_field s) w no_worker h

  pub role_read : (w : ℕ) → w < size_field s → role_of (workers_of s) w ≡ field s w role_field
  unfolding role_of worker_of
  role_read w h = ap (λ (v : Worker). v.role) (worker_read w h)

  pub count_read : (w : ℕ) → w < size_field s → event_count (workers_of s) w ≡ field s w event_count_field
  unfolding event_count worker_of
  count_read w h = rw (worker_read w h) (length_tabulate (event_record (event_section s w)) (field s w event_count_field))

  pub checkpoints_read : (w : ℕ) → w < size_field s → checkpoint_count (workers_of s) w ≡ field s w checkpoint_count_field
  unfolding checkpoint_count worker_of
  checkpoints_read w h = rw (worker_read w h) (length_tabulate (checkpoint_record (form_field s) (checkpoint_section s w)) (field s w checkpoint_count_field))

  pub event_read : (w k : ℕ) → w < size_field s → k < field s w event_count_field → event_of (workers_of s) w (suc k) ≡ event_record (event_section s w) k
  unfolding event_of worker_of
  event_read w k h l = rw (worker_read w h) (get_d_tabulate (event_record (event_section s w)) (field s w event_count_field) k no_event l)

  pub checkpoint_read : (w k : ℕ) → w < size_field s → k < field s w checkpoint_count_field
      → checkpoint_of (workers_of s) w (suc k) ≡ checkpoint_record (form_field s) (checkpoint_section s w) k
  unfolding checkpoint_of worker_of
  checkpoint_read w k h l = rw (worker_read w h) (get_d_tabulate (checkpoint_record (form_field s) (checkpoint_section s w)) (field s w checkpoint_count_field) k initial l)

  -- in a form with the mark every identifier is below it
  pub identifier_below : marks_withdrawn (form_field s) ≡ true → (w c : ℕ) → (checkpoint_of (workers_of s) w c).identifier < top_bit
  unfolding checkpoint_record
  identifier_below marks w zero = rw (checkpoint_initial (workers_of s) w) (omega arith)
  identifier_below marks w (suc k) =
      ⊎_elim
      (λ l. rw (checkpoint_read w k (inside l) (rw (checkpoints_read w (inside l)) at l)) (identifier_low (form_field s) _ marks))
      (λ l. rw (checkpoint_past (workers_of s) w (suc k) (omega arith)) (omega arith))
      (lt_or_le k (checkpoint_count (workers_of s) w))
    where
      inside : k < checkpoint_count (workers_of s) w → w < size_field s
      inside l = rw size_read at (worker_within' (workers_of s) w k l)

  -- the numbers of the entry of worker w, which is one of the log's
  pub entry_count : (w : ℕ) → w < worker_count (workers_of s) → field s w event_count_field ≡ event_count (workers_of s) w
  entry_count w h = sym (count_read w (rw size_read at h))

  pub entry_start : (w : ℕ) → w < worker_count (workers_of s) → field s w event_offset_field ≡ event_start s w
  unfolding event_start entry_or_zero
  entry_start w h = let inside : w < size_field s = rw size_read at h in rw (lt-leb (size_field s) w inside)

-- ---- a log that passes the tests 1 to 6
module _ (s : List ℕ) (ok : layout_refusal s ≡ 0) where
  -- a number of the model that is one of a worker's entry, and 0 past the last worker, within the entry's limit
  or_zero : (v w j limit : ℕ) → (w < size_field s → v ≡ field s w j) → (worker_count (workers_of s) ≤ w → v ≡ 0) → (w < size_field s → field s w j ≤ limit)
      → (v ≡ entry_or_zero s w j) × (v ≤ limit)
  unfolding entry_or_zero
  or_zero v w j limit inside past bound =
      ⊎_elim
      (λ l. let e = inside l in let b = bound l in (rw (lt-leb (size_field s) w l) e, omega arith))
      (λ l. let e = past (rw (size_read s) l) in (rw (le-leb (size_field s) w l) e, omega arith))
      (lt_or_le w (size_field s))

  pub workers_few : worker_count (workers_of s) ≤ max_workers
  workers_few = rw (size_read s) (readable s ok).few

  pub count_field : (w : ℕ) → (event_count (workers_of s) w ≡ entry_or_zero s w event_count_field) × (event_count (workers_of s) w ≤ max_events)
  count_field w = or_zero _ w event_count_field max_events (count_read s w) (count_past (workers_of s) w) (λ l. ((readable s ok).entry w l).events)

  pub checkpoints_field : (w : ℕ) → (checkpoint_count (workers_of s) w ≡ entry_or_zero s w checkpoint_count_field) × (checkpoint_count (workers_of s) w ≤ max_checkpoints)
  checkpoints_field w = or_zero _ w checkpoint_count_field max_checkpoints (checkpoints_read s w) (checkpoints_past (workers_of s) w) (λ l. ((readable s ok).entry w l).checkpoints)

  pub role_field_lem : (w : ℕ) → (role_of (workers_of s) w ≡ entry_or_zero s w role_field) × (role_of (workers_of s) w ≤ max_role)
  role_field_lem w = or_zero _ w role_field max_role (role_read s w) (role_past (workers_of s) w) (λ l. ((readable s ok).entry w l).role)

  pub entry_of : (w : ℕ) → w < worker_count (workers_of s) → Entry s w
  entry_of w h = (readable s ok).entry w (rw (size_read s) at h)

  pub entry_within : (w : ℕ) → w < worker_count (workers_of s) → header_of (w + 1) ≤ length s
  entry_within w h = let r = readable s ok in let l : w < size_field s = rw (size_read s) at h in omega arith

  -- event x of worker w, which has n: its section and its record
  module _ (w x n : ℕ) (positive : x ≢ 0) (size : n ≡ event_count (workers_of s) w) (h : x ≤ n) where
    event_worker : w < worker_count (workers_of s)
    event_worker = worker_within (workers_of s) w (x - 1) (omega arith)

    event_inside : w < size_field s
    event_inside = rw (size_read s) at event_worker

    start_read : event_start s w ≡ field s w event_offset_field
    start_read = sym (entry_start s w event_worker)

    pub events_within : event_start s w + event_size * n ≤ length s
    events_within = rw (start_read, size, count_read s w event_inside) ((readable s ok).entry w event_inside).events_end

    pub event_at_lem : event_record (section s (event_start s w) (event_size * n)) (x - 1) ≡ event_of (workers_of s) w x
    unfolding event_section
    event_at_lem =
        let counted = count_read s w event_inside in
        let next : suc (x - 1) ≡ x = omega arith in
        rw (start_read, size, counted) (sym (rw next at (event_read s w (x - 1) event_inside (omega arith))))

  -- event k + 1 of worker w, for a reader that has the start of its section and its count n
  module _ (w k n start : ℕ) (from : start ≡ event_start s w) (size : n ≡ event_count (workers_of s) w) (h : k < n) where
    some : k + 1 ≢ 0
    some e = let no : ⊥ = omega arith in no

    pub next_within : start + event_size * n ≤ length s
    next_within = rw from (events_within w (k + 1) n some size (omega arith))

    pub next_event : event_record (section s start (event_size * n)) k ≡ event_of (workers_of s) w (k + 1)
    next_event = let back : k + 1 - 1 ≡ k = omega arith in rw from (rw back at (event_at_lem w (k + 1) n some size (omega arith)))

  -- checkpoint c of worker w, which has n: its worker's entry, its section and its record
  module _ (w c n : ℕ) (positive : c ≢ 0) (size : n ≡ checkpoint_count (workers_of s) w) (h : c ≤ n) where
    checkpoint_worker : w < worker_count (workers_of s)
    checkpoint_worker = worker_within' (workers_of s) w (c - 1) (omega arith)

    checkpoint_inside : w < size_field s
    checkpoint_inside = rw (size_read s) at checkpoint_worker

    pub checkpoint_entry : header_of (w + 1) ≤ length s
    checkpoint_entry = entry_within w checkpoint_worker

    pub checkpoints_within : field s w checkpoint_offset_field + checkpoint_size * n ≤ length s
    checkpoints_within = rw (size, checkpoints_read s w checkpoint_inside) ((readable s ok).entry w checkpoint_inside).checkpoints_end

    pub checkpoint_at_lem : checkpoint_record (form_field s) (section s (field s w checkpoint_offset_field) (checkpoint_size * n)) (c - 1) ≡ checkpoint_of (workers_of s) w c
    unfolding checkpoint_section
    checkpoint_at_lem =
        let counted = checkpoints_read s w checkpoint_inside in
        let next : suc (c - 1) ≡ c = omega arith in
        rw (size, counted) (sym (rw next at (checkpoint_read s w (c - 1) checkpoint_inside (omega arith))))
