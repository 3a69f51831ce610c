-- The checkpoints that may be chosen: the laws through which everything else uses `may_choose`. Assumes nothing.
use mathlib.Core.Path.{◌≡◌, sym, ◌∙◌, ap}
use mathlib.Core.Bool.{true, false}
use mathlib.Core.List.{List}
use Prim.Native.Nat.{ℕ, ◌+◌, ◌<◌, ◌≤◌}
use native.Mathlib.Omega.{arith}
use borrow.Author.Tests.{le-leb, leb-true, not-true}
use lib.Dec.{leb}
use lib.ListN.{get_or}
use Rattle.ranges.proofs.Bools.{and_true_left, and_true_right}
use Rattle.records.specs.declared.Checkpoint.{Checkpoint}
use Rattle.event_log.specs.Model.{Workers, worker_count, checkpoint_count, checkpoint_of}
use Rattle.records.specs.Checkpoint.{initial}
use Rattle.event_log.proofs.Read.{checkpoint_initial}
use Rattle.choice.specs.Choice.{may_choose, IsChoice}

module _ (log : Workers) (w : ℕ) where
  -- a checkpoint that may be chosen is a recorded one or the initial state
  pub may_recorded : (c : ℕ) → may_choose log w c ≡ true → c ≤ checkpoint_count log w
  unfolding may_choose
  may_recorded c e = leb-true c (checkpoint_count log w) (and_true_left (leb c (checkpoint_count log w)) _ e)

  -- and not withdrawn
  pub may_kept : (c : ℕ) → may_choose log w c ≡ true → (checkpoint_of log w c).withdrawn ≡ false
  unfolding may_choose
  may_kept c e = not-true (checkpoint_of log w c).withdrawn (and_true_right (leb c (checkpoint_count log w)) _ e)

  -- and each such one may be chosen
  pub may_listed : (c : ℕ) → c ≤ checkpoint_count log w → (checkpoint_of log w c).withdrawn ≡ false → may_choose log w c ≡ true
  unfolding may_choose
  may_listed c recorded kept = rw (le-leb c (checkpoint_count log w) recorded, kept)

  -- the initial state may be chosen
  pub may_initial : may_choose log w 0 ≡ true
  unfolding may_choose
  may_initial = rw (le-leb 0 (checkpoint_count log w) (omega arith), checkpoint_initial log w)

  -- a search through the recorded checkpoints and the initial state meets every one that may be chosen
  pub may_below : (c : ℕ) → may_choose log w c ≡ true → c < checkpoint_count log w + 1
  may_below c e = let l = may_recorded c e in omega arith

-- no checkpoint of a choice is withdrawn
pub choice_kept : (log : Workers) (cut : List ℕ) (choice : List Checkpoint) → IsChoice log cut choice → (w : ℕ) → w < worker_count log → (get_or choice w initial).withdrawn ≡ false
choice_kept log cut choice is w h = let o = is.offered w h in sym (ap (λ (p : Checkpoint). p.withdrawn) o.2) ∙ may_kept log w o.0 o.1
