-- Choices of checkpoints of document 01, "Plan", "of checkpoints that aren't withdrawn" (document 02, Note 6).
-- Assumes nothing.
use Rattle.std.specs.Prelude.{◌≡◌, Bool, true, not, ◌&&◌, List, map, ℕ, ◌+◌, ◌<◌, ◌≤◌, leb, length, get_or}
use Rattle.ranges.specs.Fold.{any_below}
use Rattle.records.specs.declared.Event.{Event}
use Rattle.records.specs.declared.Checkpoint.{Checkpoint}
use Rattle.event_log.specs.Model.{Workers, worker_count, event_of, checkpoint_count, checkpoint_of}
use Rattle.records.specs.Checkpoint.{initial}
use Rattle.records.specs.Event.{is_unlogged}
use Rattle.lent.specs.Lent.{at}
use Rattle.causality.specs.Cut.{Within}

-- the checkpoints that may be chosen: the initial state, number 0, and each recorded one that is not withdrawn
unfoldable pub may_choose : Workers → ℕ → ℕ → Bool
may_choose log w c = leb c (checkpoint_count log w) && not (checkpoint_of log w c).withdrawn

abbrev pub Offered : Workers → ℕ → Checkpoint → Type 0
Offered log w p = (c : ℕ) × (may_choose log w c ≡ true) × (checkpoint_of log w c ≡ p)

-- "A choice gives each worker a checkpoint with index at most its cut"
pub record IsChoice (log : Workers) (cut : List ℕ) (choice : List Checkpoint) : Type 0 where
  pub long : length choice ≡ worker_count log
  pub offered : (w : ℕ) → w < worker_count log → Offered log w (get_or choice w initial)
  pub within : (w : ℕ) → (get_or choice w initial).index ≤ at cut w

-- the start index of each worker
abbrev pub starts_of : List Checkpoint → List ℕ
starts_of choice = map (λ (p : Checkpoint). p.index) choice

-- "startable when each kind 2 receive after its worker's start and within the cut has a send index above the sender's start"
abbrev pub Startable : Workers → List ℕ → List ℕ → Type 0
Startable log cut starts =
    (w k : ℕ) → at starts w ≤ k → k < at cut w → is_unlogged (event_of log w (k + 1)) ≡ true → at starts (event_of log w (k + 1)).peer < (event_of log w (k + 1)).send

-- e is a kind 2 receive that loses its send where the sender starts at this index: from there the send is not made again
unfoldable pub loses_send : Event → ℕ → Bool
loses_send e start = is_unlogged e && leb e.send start

-- startable as a test: event k + 1 of w is after its worker's start and loses its send;
unfoldable pub lost_at : Workers → List ℕ → ℕ → ℕ → Bool
lost_at log starts w k = leb (at starts w) k && loses_send (event_of log w (k + 1)) (at starts (event_of log w (k + 1)).peer)

-- some event of w within the cut is such a one;
unfoldable pub worker_lost : Workers → List ℕ → List ℕ → ℕ → Bool
worker_lost log cut starts w = any_below (lost_at log starts w) (at cut w)

-- no worker has one
unfoldable pub is_startable : Workers → List ℕ → List ℕ → Bool
is_startable log cut starts = not (any_below (worker_lost log cut starts) (worker_count log))

-- "the startable choice with every start index the largest"
pub record IsLatest (log : Workers) (cut : List ℕ) (choice : List Checkpoint) : Type 0 where
  pub is_choice : IsChoice log cut choice
  pub startable : Startable log cut (starts_of choice)
  pub latest : (other : List Checkpoint) → IsChoice log cut other → Startable log cut (starts_of other) → Within (starts_of other) (starts_of choice)
