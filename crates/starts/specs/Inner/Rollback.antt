-- How the code finds the starts: while a worker is rolled back, its third plan word holds the number of its checkpoint, and a word of
-- scratch says down to which event it has been looked at.
-- Assumes nothing.
use Rattle.std.specs.Prelude.{◌≡◌, Bool, true, cond, ◌&&◌, List, ℕ, ◌+◌, ◌*◌, ◌/◌, ◌%◌, ◌<◌, ◌≤◌, eqb, ltb, length, set}
use Rattle.ranges.specs.Fold.{last_below, tabulate}
use Rattle.records.specs.declared.Event.{Event}
use Rattle.records.specs.declared.Checkpoint.{Checkpoint}
use Rattle.event_log.specs.Model.{Workers, worker_count, event_of, checkpoint_of}
use Rattle.records.specs.Event.{is_unlogged}
use Rattle.lent.specs.Lent.{at}
use Rattle.choice.specs.Choice.{may_choose, IsChoice, starts_of, Startable, loses_send}
use Rattle.restore_plan.specs.Plan.{identifier_of, identifier_at, plan_starts}
use Rattle.cost.specs.Words.{cut_in, start_in, identifier_in, starts_in}

-- the number of worker w's checkpoint: it stands in the place of the identifier
abbrev pub number_in : List ℕ → ℕ → ℕ
number_in words w = identifier_in words w

unfoldable pub may_start_below : Workers → ℕ → ℕ → ℕ → Bool
may_start_below log w bound c = may_choose log w c && ltb (checkpoint_of log w c).index bound

-- the last checkpoint of worker w, up to number c, that may be chosen and has an index below bound
unfoldable pub number_below : Workers → ℕ → ℕ → ℕ → ℕ
number_below log w bound c = last_below (may_start_below log w bound) (λ d. d) (c + 1)

-- the words after worker w is given checkpoint c
unfoldable pub placed : Workers → List ℕ → ℕ → ℕ → List ℕ
placed log words w c = set (set words (3 * w + 1) (checkpoint_of log w c).index) (3 * w + 2) c

-- the words after event e is looked at: the sender of a receive that loses its send starts below the send
unfoldable pub resent : Workers → Event → List ℕ → List ℕ
resent log e words =
    cond (loses_send e (start_in words e.peer))
    (placed log words e.peer (number_below log e.peer e.send (number_in words e.peer)))
    words

-- some event of worker w after its start has not been looked at
unfoldable pub pending : List ℕ → List ℕ → ℕ → Bool
pending words looked w = ltb (start_in words w) (at looked w)

-- what holds of the words while the starts are rolled back
pub record RollingBack (log : Workers) (cut words looked : List ℕ) : Type 0 where
  pub wide : length words ≡ 3 * worker_count log
  pub long : length looked ≡ worker_count log
  pub cuts : (w : ℕ) → w < worker_count log → cut_in words w ≡ at cut w
  -- a start is the index of the last checkpoint with this index, and at most the cut
  pub may : (w : ℕ) → w < worker_count log → may_choose log w (number_in words w) ≡ true
  pub index : (w : ℕ) → w < worker_count log → (checkpoint_of log w (number_in words w)).index ≡ start_in words w
  pub last : (w d : ℕ) → w < worker_count log → number_in words w < d → may_choose log w d ≡ true → start_in words w < (checkpoint_of log w d).index
  pub within : (w : ℕ) → w < worker_count log → start_in words w ≤ at cut w
  -- what has been looked at can be sent again
  pub looks : (w : ℕ) → at looked w ≤ at cut w
  pub kept : (w k : ℕ) → at looked w ≤ k → k < at cut w → is_unlogged (event_of log w (k + 1)) ≡ true
      → start_in words (event_of log w (k + 1)).peer < (event_of log w (k + 1)).send
  -- no startable choice has a later start
  pub above : (other : List Checkpoint) → IsChoice log cut other → Startable log cut (starts_of other)
      → (w : ℕ) → w < worker_count log → at (starts_of other) w ≤ start_in words w

-- the words after some events more were looked at: no start is later, no word of scratch higher
pub record Looked (log : Workers) (cut words looked words' looked' : List ℕ) : Type 0 where
  pub rolling : RollingBack log cut words' looked'
  pub starts : (v : ℕ) → start_in words' v ≤ start_in words v
  pub looks : (v : ℕ) → at looked' v ≤ at looked v

-- the words when nothing is pending
pub record Settled (log : Workers) (cut words : List ℕ) : Type 0 where
  pub wide : length words ≡ 3 * worker_count log
  pub cuts : (w : ℕ) → w < worker_count log → cut_in words w ≡ at cut w
  pub starts : starts_in log words ≡ plan_starts log cut
  pub identifiers : (w : ℕ) → w < worker_count log → identifier_of log w (number_in words w) ≡ identifier_at log w (start_in words w)

-- the identifier for the number, in every third word
unfoldable pub finished_word : Workers → List ℕ → ℕ → ℕ
finished_word log words j = cond (eqb (j % 3) 2) (identifier_of log (j / 3) (at words j)) (at words j)

unfoldable pub finished : Workers → List ℕ → List ℕ
finished log words = tabulate (finished_word log words) (3 * worker_count log)
