-- The records of worker w that the interval log keeps, written by a loop over those of the log: receives, and checkpoints that are not
-- withdrawn. Assumes nothing.
use mathlib.Core.Path.{◌≡◌, sym, ◌∙◌}
use mathlib.Core.Bool.{true, false}
use mathlib.Core.List.{List, ◌++◌}
use Prim.Native.Nat.{ℕ, ◌+◌, ◌-◌, ◌*◌, ◌<◌, ◌≤◌}
use native.Mathlib.Omega.{arith}
use lib.ListN.{length}
use Rattle.ranges.specs.Fold.{join_below, sum_below}
use Rattle.lent.specs.Inner.Overwrite.{overwrite}
use Rattle.bytes_le.specs.Little.{bytes_of}
use Rattle.records.specs.declared.Event.{Event}
use Rattle.records.specs.declared.Checkpoint.{Checkpoint}
use Rattle.records.specs.Event.{event_size, event_record, is_receive}
use Rattle.records.specs.Checkpoint.{checkpoint_size}
use Rattle.event_log.specs.Layout.{section, event_start, workers_of}
use Rattle.event_log.proofs.Read.{next_event}
use Rattle.accept.specs.Refusal.{log_refusal}
use Rattle.accept.proofs.Accepted.{accepted_layout}
use Rattle.event_log.specs.Model.{Workers, event_count, event_of, checkpoint_count, checkpoint_of}
use Rattle.repeats.proofs.Places.{received_one, received_none}
use Rattle.pack.specs.Packed.{event_bytes, event_at, checkpoint_at}
use Rattle.causality.specs.Cut.{receive_at}
use Rattle.intervals.specs.declared.IntervalNumber.{IntervalNumber}
use Rattle.intervals.specs.Interval.{index, interval_at, interval_workers}
use Rattle.intervals.proofs.IntervalModel.{interval_next, interval_size, interval_role, interval_count, kept_at, kept_more, kept_same, interval_checkpoints}
use Rattle.pack.proofs.Header.{entries_long, sections_before}
use Rattle.pack.proofs.Writing.{start_first, start_next, written_none, entry_within, header_within, end_within}
use Rattle.interval_log.specs.Inner.Space.{naming}
use Rattle.interval_log.proofs.Pieces.{event_piece, event_piece_long, checkpoint_piece, checkpoint_piece_long}
use Rattle.interval_log.proofs.Staying.{Staying, staying_none, staying_past, staying_room, staying_more, staying_end, staying_written}

-- the receives among the first k events, and the checkpoints that are not withdrawn among the first k, written from place `first` on
pub record Receives (log : Workers) (w first : ℕ) (lent : List ℕ) (k place : ℕ) (out : List ℕ) : Type 0 where
  pub staying : Staying (event_at (interval_workers log) w) (receive_at log w) event_size first lent (event_count log w) k place out

pub record Checkpoints (log : Workers) (w first : ℕ) (lent : List ℕ) (k place : ℕ) (out : List ℕ) : Type 0 where
  pub staying : Staying (checkpoint_at (interval_workers log) w) (kept_at log w) checkpoint_size first lent (checkpoint_count log w) k place out

module _ (log : Workers) (w first : ℕ) (lent : List ℕ) where
  pub receives_begin : first + event_size * event_count (interval_workers log) w ≤ length lent → Receives log w first lent 0 first lent
  receives_begin room = record { staying = staying_none (rw interval_count at room) }

  pub checkpoints_begin : first + checkpoint_size * checkpoint_count (interval_workers log) w ≤ length lent → Checkpoints log w first lent 0 first lent
  checkpoints_begin room = record { staying = staying_none (rw interval_checkpoints at room) }

-- e is event k + 1 of worker w of the log that bytes hold, as it is read from the section of its n events
pub record ReadEvent (s : List ℕ) (w k : ℕ) (e : Event) : Type 0 where
  pub inside : k < event_count (workers_of s) w
  pub is : e ≡ event_of (workers_of s) w (k + 1)

pub event_read : {s : List ℕ} {w k n start : ℕ} {e : Event} → log_refusal s ≡ 0 → start ≡ event_start s w → n ≡ event_count (workers_of s) w → k < n
    → e ≡ event_record (section s start (event_size * n)) k → ReadEvent s w k e
event_read {s} {w} {k} {n} {start} accepted from size h read =
    record { inside = rw size at h; is = read ∙ next_event s (accepted_layout s accepted) w k n start from size h }

module _ {s : List ℕ} {w first : ℕ} {lent : List ℕ} {k place : ℕ} {out : List ℕ} where
  -- ---- event k + 1
  module _ (so : Receives (workers_of s) w first lent k place out) {e : Event} (next : ReadEvent s w k e) where
    pub receives_past : false ≡ is_receive e → Receives (workers_of s) w first lent (k + 1) place out
    receives_past sent =
        let none = received_none _ (rw next.is at (sym sent)) in
        record { staying = staying_past so.staying next.inside (interval_next (workers_of s) w k ∙ rw none (omega arith)) }

    module _ (read : true ≡ is_receive e) where
      receive : is_receive (event_of (workers_of s) w (k + 1)) ≡ true
      receive = rw next.is at (sym read)

      more : sum_below (receive_at (workers_of s) w) (k + 1) ≡ sum_below (receive_at (workers_of s) w) k + 1
      more = interval_next (workers_of s) w k ∙ rw (received_one _ receive)

      pub receives_room : place + event_size ≤ length out
      receives_room = staying_room so.staying next.inside more

      pub receives_more : {number : IntervalNumber} → number ≡ interval_at (workers_of s) e.peer (index (e.send - 1)) → {left : List ℕ}
          → left ≡ overwrite place (event_bytes (naming e number)) out → length left ≡ length out → Receives (workers_of s) w first lent (k + 1) (place + event_size) left
      receives_more is wrote same =
          record {
            staying = staying_more so.staying next.inside more (event_piece_long (interval_workers (workers_of s)) w)
                (rw (is, next.is, event_piece (workers_of s) w k next.inside receive) at wrote) same;
          }

module _ {log : Workers} {w first : ℕ} {lent : List ℕ} {k place : ℕ} {out : List ℕ} where
  -- ---- checkpoint k + 1
  module _ (so : Checkpoints log w first lent k place out) (h : k < checkpoint_count log w) {c : Checkpoint} (q : c ≡ checkpoint_of log w (k + 1)) where
    pub checkpoints_past : c.withdrawn ≡ true → Checkpoints log w first lent (k + 1) place out
    checkpoints_past gone = record { staying = staying_past so.staying h (kept_same log w k (rw q at gone)) }

    module _ (stays : c.withdrawn ≡ false) where
      kept : sum_below (kept_at log w) (k + 1) ≡ sum_below (kept_at log w) k + 1
      kept = kept_more log w k (rw q at stays)

      pub checkpoints_room : place + checkpoint_size ≤ length out
      checkpoints_room = staying_room so.staying h kept

      pub checkpoints_more : {number : IntervalNumber} → number ≡ interval_at log w (index c.index) → {left : List ℕ}
          → left ≡ overwrite place (bytes_of 4 number.0 ++ bytes_of 4 c.identifier) out → length left ≡ length out
          → Checkpoints log w first lent (k + 1) (place + checkpoint_size) left
      checkpoints_more is wrote same =
          record { staying = staying_more so.staying h kept (checkpoint_piece_long (interval_workers log) w) (rw (is, q, checkpoint_piece log w k h (rw q at stays)) at wrote) same }

  -- ---- all are passed
  pub receives_end : Receives log w first lent k place out → event_count log w ≤ k
      → (place ≡ first + event_size * event_count (interval_workers log) w)
      × (out ≡ overwrite first (join_below (event_at (interval_workers log) w) (event_count (interval_workers log) w)) lent)
  receives_end so h = rw (interval_count log w) (staying_end so.staying h, staying_written so.staying h)

  pub checkpoints_end : Checkpoints log w first lent k place out → checkpoint_count log w ≤ k
      → (place ≡ first + checkpoint_size * checkpoint_count (interval_workers log) w)
      × (out ≡ overwrite first (join_below (checkpoint_at (interval_workers log) w) (checkpoint_count (interval_workers log) w)) lent)
  checkpoints_end so h = rw (interval_checkpoints log w) (staying_end so.staying h, staying_written so.staying h)

-- what the code asks of the numbers of an entry
pub ruleset entry_laws = (accepted_layout, interval_size, interval_count, interval_role, start_first, start_next, written_none, entry_within, header_within, entries_long, sections_before, end_within)
