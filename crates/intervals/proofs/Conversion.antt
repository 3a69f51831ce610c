-- The packed interval log of an accepted log is read as the interval log, and refused by 2: `Converted`. Assumes nothing.
use mathlib.Core.Path.{◌≡◌, ◌∙◌, ap, subst}
use mathlib.Core.Bool.{false, false≢true}
use mathlib.Core.List.{List}
use Prim.Native.Nat.{ℕ, ◌+◌, ◌<◌, ◌≤◌}
use native.Mathlib.Nat.{lt_of_le_of_lt}
use native.Mathlib.Omega.{arith}
use borrow.Author.Tests.{not-true}
use lib.ListN.{length, take}
use Rattle.lent.specs.Lent.{unless_refused}
use Rattle.lent.proofs.Lent.{or_else_first, named_words}
use Rattle.bytes_le.specs.Little.{Bytes}
use Rattle.records.specs.declared.Event.{Event}
use Rattle.records.specs.declared.Checkpoint.{Checkpoint}
use Rattle.records.specs.Forms.{third_form, is_form, marks_withdrawn}
use Rattle.records.specs.Mark.{with_mark}
use Rattle.event_log.specs.Limits.{max_length}
use Rattle.event_log.specs.Model.{Log, Workers, event_of, checkpoint_of}
use Rattle.event_log.specs.Layout.{form_field, workers_of, log_of}
use Rattle.event_log.proofs.Readable.{form_refused}
use Rattle.accept.specs.Refusal.{content_refusal, log_refusal}
use Rattle.accept.proofs.Accepted.{accepted_layout, well_formed}
use Rattle.pack.specs.Packed.{packed_length, packed}
use Rattle.pack.proofs.Header.{packed_all_long}
use Rattle.pack.proofs.ReadBack.{EventFits, CheckpointFits, LogFits, read_packed, read_fits}
use Rattle.pack.proofs.Writing.{header_within, limited, length_small}
use Rattle.intervals.specs.Interval.{index, interval_at, interval_event, interval_checkpoint, checkpoint_stays, interval_workers, interval_log}
use Rattle.intervals.specs.Converted.{Converted}
use Rattle.intervals.proofs.IntervalModel.{interval_few, interval_size, interval_role, interval_event_lem, interval_event_from, interval_checkpoint_lem, interval_checkpoint_from}
use Rattle.intervals.proofs.LeastClosed.{least_closed}

-- ---- its numbers have room in their bytes, since an interval number is no larger than the index in its place
module _ (log : Log) (fits : LogFits log) where
  abbrev workers : Workers
  workers = log.workers

  -- an interval number is at most what the index in its place is at most
  under : (w x : ℕ) {y : ℕ} → x ≤ y → (interval_at workers w (index x)).0 ≤ y
  under w x h = let few = interval_few workers w x in omega arith

  event_fits : (e : Event) → EventFits e → EventFits (interval_event workers e)
  unfolding interval_event
  event_fits e f =
      record { peer = f.peer; spare = f.spare; send = lt_of_le_of_lt (under _ _ (omega arith)) f.send; stamp = f.stamp }

  -- a checkpoint that is not withdrawn has no mark
  checkpoint_fits : (w : ℕ) (c : Checkpoint) → c.withdrawn ≡ false → CheckpointFits log.form c → CheckpointFits third_form (interval_checkpoint workers w c)
  unfolding interval_checkpoint with_mark marks_withdrawn
  checkpoint_fits w c stays f =
      record {
        index = lt_of_le_of_lt (under _ _ (omega arith)) f.index;
        word = f.word;
        low = λ marks. absurd (false≢true marks);
        unmarked = λ none. stays;
      }

  pub interval_fits : packed_length (interval_workers workers) < 4294967296 → LogFits (interval_log workers)
  unfolding checkpoint_stays
  interval_fits short =
      record {
        form = omega arith;
        few = rw (interval_size workers) fits.few;
        short = short;
        roles = λ w h. rw (interval_role workers w) (fits.roles w (rw (interval_size workers) at h));
        events = λ w j h.
            let at = interval_event_from workers w (j + 1) (omega arith) (omega arith) in
            subst (λ (i : ℕ). EventFits (event_of (interval_workers workers) w i)) at.3
            (rw (interval_event_lem workers w at.0 at.1 at.2) (event_fits (event_of workers w (at.0 + 1)) (fits.events w at.0 at.1)));
        checkpoints = λ w j h.
            let at = interval_checkpoint_from workers w (j + 1) (omega arith) (omega arith) in
            subst (λ (i : ℕ). CheckpointFits third_form (checkpoint_of (interval_workers workers) w i)) at.3
            (rw (interval_checkpoint_lem workers w at.0 at.1 at.2)
            (checkpoint_fits w (checkpoint_of workers w (at.0 + 1)) (not-true (checkpoint_of workers w (at.0 + 1)).withdrawn at.2) (fits.checkpoints w at.0 at.1)));
      }

-- ---- the bytes that are written for an accepted log
module _ (s : List ℕ) (all : Bytes s) (accepted : log_refusal s ≡ 0) (short : packed_length (interval_workers (workers_of s)) ≤ max_length) where
  abbrev file : List ℕ
  file = packed (interval_log (workers_of s))

  held : log_of file ≡ interval_log (workers_of s)
  held = read_packed (interval_log (workers_of s)) (interval_fits (log_of s) (read_fits s all (length_small (limited s (accepted_layout s accepted)))) (omega arith))

  long : length file ≡ packed_length (interval_workers (workers_of s))
  long = packed_all_long (interval_log (workers_of s))

  refused : log_refusal file ≡ 2
  unfolding log_refusal is_form
  refused =
      let within = header_within (interval_workers (workers_of s)) in
      let size = long in
      let form : form_field file ≡ third_form = ap (λ (log : Log). log.form) held in
      let two = form_refused file (omega arith) (omega arith) (rw form) in
      or_else_first _ (content_refusal (log_of file)) (λ e. let no : ⊥ = omega arith in no) ∙ two

  pub converted : Converted s file
  converted =
      record {
        long = long;
        holds = held;
        refused = refused;
        cuts = rw (ap (λ (log : Log). log.workers) held) (least_closed (workers_of s) (well_formed s accepted));
      }

  -- the bytes that a call leaves in front of the others
  pub file_converted : (out : List ℕ) (number : ℕ) → number ≡ packed_length (interval_workers (workers_of s)) → Converted s (take number (unless_refused 0 file out))
  unfolding unless_refused
  file_converted out number is = rw (is, named_words (packed_length (interval_workers (workers_of s))) file out long) converted
