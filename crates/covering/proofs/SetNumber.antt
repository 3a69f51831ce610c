-- The covering test as the code makes it: a worker's checkpoint with an identifier, and its index in a word for each worker.
-- Assumes nothing.
use mathlib.Core.Path.{◌≡◌, ap}
use mathlib.Core.Bool.{true, false, not}
use mathlib.Core.List.{List, ◌++◌}
use Prim.Native.Nat.{ℕ, ◌+◌, ◌<◌}
use lib.ListN.{get_or-append}
use Rattle.ranges.proofs.Any.{any_every, any_found}
use Rattle.ranges.proofs.Tabulate.{length_tabulate}
use Rattle.event_log.specs.Model.{Workers, worker_count, checkpoint_count}
use Rattle.accept.specs.WellFormed.{WellFormed}
use Rattle.choice.specs.Choice.{is_startable}
use Rattle.covering.specs.Covering.{is_set, cut_of_all, without_set, set_index, set_starts}
use Rattle.choice.proofs.Startable.{startable_same}
use Rattle.covering.proofs.CoveringSet.{cut_of_all_lem}

module _ (log : Workers) (t w : ℕ) {end : ℕ} (all : end ≡ checkpoint_count log w + 1) where
  -- a worker none of whose checkpoints is in the set is without it ..
  pub set_without : ((c : ℕ) → c < end → is_set log t w c ≡ false) → without_set log t w ≡ true
  unfolding without_set
  set_without none = ap not (any_every (is_set log t w) (checkpoint_count log w + 1) (rw all at none))

  -- .. and one that has a checkpoint in it is not
  pub set_with : (c : ℕ) → c < end → is_set log t w c ≡ true → without_set log t w ≡ false
  unfolding without_set
  set_with c h one = ap not (any_found (is_set log t w) (checkpoint_count log w + 1) c (rw all at h) one)

-- the words that hold the indices are startable where the indices are
pub startable_words : (log : Workers) → WellFormed log → (t : ℕ) (rest : List ℕ)
    → is_startable log (cut_of_all log) (set_starts log t ++ rest) ≡ is_startable log (cut_of_all log) (set_starts log t)
unfolding set_starts
startable_words log ok t rest =
    startable_same log ok (cut_of_all log) (cut_of_all_lem log) (set_starts log t ++ rest) (set_starts log t)
    (λ v h. get_or-append (set_starts log t) rest 0 v (rw (length_tabulate (set_index log t) (worker_count log)) h))
