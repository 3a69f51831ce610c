-- The pieces of an interval log: a record written number by number, and the record of a receive and of a checkpoint that stays.
-- Assumes nothing.
use mathlib.Core.Path.{◌≡◌, sym, ◌∙◌, ap}
use mathlib.Core.Bool.{true, false}
use mathlib.Core.List.{List, ◌++◌}
use Prim.Native.Nat.{ℕ, ◌+◌, ◌-◌, ◌<◌, ◌≤◌}
use native.Mathlib.Omega.{arith}
use lib.ListN.{length, length-append}
use Rattle.ranges.specs.Fold.{sum_below}
use Rattle.lent.specs.Inner.Overwrite.{overwrite}
use Rattle.bytes_le.specs.Little.{bytes_of}
use Rattle.bytes_le.proofs.Little.{length_bytes}
use Rattle.records.specs.declared.Event.{Event}
use Rattle.records.specs.Event.{event_size, is_receive}
use Rattle.records.specs.Checkpoint.{checkpoint_size}
use Rattle.records.specs.Kind.{kind_number}
use Rattle.records.specs.Mark.{with_mark}
use Rattle.event_log.specs.Model.{Workers, event_count, event_of, checkpoint_count, checkpoint_of}
use Rattle.pack.specs.Packed.{event_bytes, checkpoint_bytes, event_at, checkpoint_at}
use Rattle.pack.proofs.Records.{event_long, checkpoint_long}
use Rattle.pack.proofs.Writing.{more_at}
use Rattle.intervals.specs.Interval.{index, interval_at, interval_event, interval_checkpoint, checkpoint_stays, interval_workers}
use Rattle.interval_log.specs.Inner.Space.{naming}
use Rattle.intervals.proofs.IntervalModel.{kept_at, interval_event_lem, interval_checkpoint_lem}

-- a piece is as long as a record
pub event_piece_long : (log : Workers) (w j : ℕ) → length (event_at log w j) ≡ event_size
unfolding event_at
event_piece_long log w j = event_long (event_of log w (j + 1))

pub checkpoint_piece_long : (log : Workers) (w j : ℕ) → length (checkpoint_at log w j) ≡ checkpoint_size
unfolding checkpoint_at
checkpoint_piece_long log w j = checkpoint_long (checkpoint_of log w (j + 1))

-- the numbers of an event, each written where the last one ends
pub event_written : (e : Event) (at : ℕ) (out : List ℕ) → at ≤ length out
    → overwrite (at + 8) (bytes_of 4 e.stamp)
    (overwrite (at + 4) (bytes_of 4 e.send) (overwrite (at + 2) (bytes_of 2 e.spare) (overwrite (at + 1) (bytes_of 1 e.peer) (overwrite at (bytes_of 1 (kind_number e.kind)) out))))
    ≡ overwrite at (event_bytes e) out
unfolding event_bytes
event_written e at out h =
    let one = bytes_of 1 (kind_number e.kind) in
    let two = one ++ bytes_of 1 e.peer in
    let three = two ++ bytes_of 2 e.spare in
    let four = three ++ bytes_of 4 e.send in
    let long₁ : length one ≡ 1 = length_bytes 1 (kind_number e.kind) in
    let long₂ : length two ≡ 2 = simp (length-append, length_bytes) in
    let long₃ : length three ≡ 4 = simp (length-append, length_bytes) in
    let long₄ : length four ≡ 8 = simp (length-append, length_bytes) in
    rw (
      more_at at (at + 1) out one (bytes_of 1 e.peer) h (omega arith),
      more_at at (at + 2) out two (bytes_of 2 e.spare) h (omega arith),
      more_at at (at + 4) out three (bytes_of 4 e.send) h (omega arith),
    )
    (more_at at (at + 8) out four (bytes_of 4 e.stamp) h (omega arith))

-- .. and those of a checkpoint
pub checkpoint_written : (number identifier at : ℕ) (out : List ℕ) → at ≤ length out
    → overwrite (at + 4) (bytes_of 4 identifier) (overwrite at (bytes_of 4 number) out) ≡ overwrite at (bytes_of 4 number ++ bytes_of 4 identifier) out
checkpoint_written number identifier at out h = more_at at (at + 4) out (bytes_of 4 number) (bytes_of 4 identifier) h (rw (length_bytes 4 number))

module _ (log : Workers) (w k : ℕ) where
  -- the piece of event k + 1, a receive
  pub event_piece : k < event_count log w → is_receive (event_of log w (k + 1)) ≡ true
      → event_bytes (naming (event_of log w (k + 1)) (interval_at log (event_of log w (k + 1)).peer (index ((event_of log w (k + 1)).send - 1))))
      ≡ event_at (interval_workers log) w (interval_at log w (index k)).0
  unfolding event_at interval_event
  event_piece h receive = ap event_bytes (sym (interval_event_lem log w k h receive))

  -- the piece of checkpoint k + 1, which is not withdrawn: its identifier word has no mark
  bare : (checkpoint_of log w (k + 1)).withdrawn ≡ false
      → bytes_of 4 (interval_at log w (index (checkpoint_of log w (k + 1)).index)).0 ++ bytes_of 4 (checkpoint_of log w (k + 1)).identifier
      ≡ checkpoint_bytes (interval_checkpoint log w (checkpoint_of log w (k + 1)))
  unfolding checkpoint_bytes interval_checkpoint with_mark
  bare stays = rw stays

  pub checkpoint_piece : k < checkpoint_count log w → (checkpoint_of log w (k + 1)).withdrawn ≡ false
      → bytes_of 4 (interval_at log w (index (checkpoint_of log w (k + 1)).index)).0 ++ bytes_of 4 (checkpoint_of log w (k + 1)).identifier
      ≡ checkpoint_at (interval_workers log) w (sum_below (kept_at log w) k)
  unfolding checkpoint_at checkpoint_stays
  checkpoint_piece h stays = bare stays ∙ ap checkpoint_bytes (sym (interval_checkpoint_lem log w k h (rw stays)))
