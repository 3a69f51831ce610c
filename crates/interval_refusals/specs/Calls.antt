-- What the conversion to an interval log refuses, returns and leaves.
-- Assumes nothing.
use Rattle.std.specs.Prelude.{Bool, cond, ◌&&◌, List, [], ◌∷◌, ℕ, ◌+◌, eqb, length}
use Rattle.ranges.specs.Fold.{any_below}
use Rattle.lent.specs.Lent.{or_else, words_refusal, Left, leaves_both}
use Rattle.event_log.specs.Model.{Workers, worker_count, checkpoint_count, checkpoint_of}
use Rattle.accept.specs.Refusal.{Given}
use Rattle.pack.specs.Packed.{packed_length, packed}
use Rattle.pack.specs.Calls.{room_refusal}
use Rattle.intervals.specs.Interval.{index, interval_at, checkpoint_stays, interval_workers, interval_log}

module _ (log : Workers) where
  -- the interval of recorded checkpoint k + 1 of worker w
  unfoldable pub checkpoint_interval : ℕ → ℕ → ℕ
  checkpoint_interval w k = (interval_at log w (index (checkpoint_of log w (k + 1)).index)).0

  -- "two recorded checkpoints not withdrawn of one worker fall into one interval": checkpoints j + 1 and k + 1 of worker w
  unfoldable pub fall_together : ℕ → ℕ → ℕ → Bool
  fall_together w k j = checkpoint_stays log w k && checkpoint_stays log w j && eqb (checkpoint_interval w k) (checkpoint_interval w j)

  -- checkpoint k + 1 with one before it
  unfoldable pub falls_together : ℕ → ℕ → Bool
  falls_together w k = any_below (fall_together w k) k

  -- some two of worker w
  unfoldable pub worker_crowded : ℕ → Bool
  worker_crowded w = any_below (falls_together w) (checkpoint_count log w)

  -- 28: some two of one worker
  unfoldable pub crowded : Bool
  crowded = any_below worker_crowded (worker_count log)

-- "28 .. is tested after 24 and before 26"; "Refusals 26 and 25 apply to the output"; then 14 where something else lent is too short, `others`
unfoldable pub intervals_refusal : Given → ℕ → ℕ → ℕ
intervals_refusal log lent others =
    or_else log.refusal (or_else (cond (crowded log.workers) 28 0) (or_else (room_refusal (packed_length (interval_workers log.workers)) lent) others))

-- `intervals`, of the bytes and of the word for their number: "packed as in Note 2"
abbrev pub intervals_call : Given → List ℕ → List ℕ → Left
intervals_call log out written =
    leaves_both (intervals_refusal log (length out) (words_refusal (length written) 1)) (packed (interval_log log.workers)) out
    (packed_length (interval_workers log.workers) ∷ []) written
