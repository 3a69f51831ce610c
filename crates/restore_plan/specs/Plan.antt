-- The plan of document 01, computed: from the cut, each worker is rolled back to the latest checkpoint that loses no send, until nothing moves.
-- Assumes nothing.
use Rattle.std.specs.Prelude.{Bool, false, not, cond, ◌&&◌, List, ℕ, ◌+◌, ◌*◌, ◌/◌, ◌%◌, eqb, leb}
use Rattle.ranges.specs.Fold.{any_below, max_below, sum_below, last_below, tabulate, sweep}
use Rattle.records.specs.declared.Checkpoint.{Checkpoint}
use Rattle.event_log.specs.Model.{Workers, worker_count, event_of, checkpoint_count, checkpoint_of}
use Rattle.lent.specs.Lent.{at}
use Rattle.choice.specs.Choice.{may_choose, loses_send}

-- event k + 1 of w is after its worker's start and loses its send where v, the sender, starts at index x
unfoldable pub loses : Workers → List ℕ → ℕ → ℕ → ℕ → ℕ → Bool
loses log starts v x w k =
    leb (at starts w) k && eqb (event_of log w (k + 1)).peer v && loses_send (event_of log w (k + 1)) x

unfoldable pub worker_loses : Workers → List ℕ → List ℕ → ℕ → ℕ → ℕ → Bool
worker_loses log cut starts v x w = any_below (loses log starts v x w) (at cut w)

-- whether worker v, started at index x, could not send again what some worker needs
unfoldable pub some_loses : Workers → List ℕ → List ℕ → ℕ → ℕ → Bool
some_loses log cut starts v x = any_below (worker_loses log cut starts v x) (worker_count log)

unfoldable pub usable : Workers → List ℕ → List ℕ → ℕ → ℕ → Bool
usable log cut starts v c =
    may_choose log v c && leb (checkpoint_of log v c).index (at starts v) && not (some_loses log cut starts v (checkpoint_of log v c).index)

unfoldable pub index_if : Workers → List ℕ → List ℕ → ℕ → ℕ → ℕ
index_if log cut starts v c = cond (usable log cut starts v c) (checkpoint_of log v c).index 0

unfoldable pub rolled_back_at : Workers → List ℕ → List ℕ → ℕ → ℕ
rolled_back_at log cut starts v = max_below (index_if log cut starts v) (checkpoint_count log v + 1)

unfoldable pub rolled_back : Workers → List ℕ → List ℕ → List ℕ
rolled_back log cut starts = tabulate (rolled_back_at log cut starts) (worker_count log)

-- as many rounds as the cut has events within
unfoldable pub plan_starts : Workers → List ℕ → List ℕ
plan_starts log cut = sweep (λ k starts. rolled_back log cut starts) (sum_below (at cut) (worker_count log)) cut

-- "Of recorded checkpoints with that index the last one listed gives the identifier; if none is recorded, 0", and of these "the last one
-- listed with that index and not withdrawn does, else 0": the initial state, which has index 0, has identifier 0
unfoldable pub stands_at : Workers → ℕ → ℕ → ℕ → Bool
stands_at log w x c = may_choose log w c && eqb (checkpoint_of log w c).index x

unfoldable pub identifier_of : Workers → ℕ → ℕ → ℕ
identifier_of log w c = (checkpoint_of log w c).identifier

unfoldable pub identifier_at : Workers → ℕ → ℕ → ℕ
identifier_at log w x = last_below (stands_at log w x) (identifier_of log w) (checkpoint_count log w + 1)

unfoldable pub plan_at : Workers → List ℕ → ℕ → Checkpoint
plan_at log starts w = record { index = at starts w; identifier = identifier_at log w (at starts w); withdrawn = false }

-- the plan as a choice
unfoldable pub plan_choice : Workers → List ℕ → List Checkpoint
plan_choice log cut = tabulate (plan_at log (plan_starts log cut)) (worker_count log)

-- "The plan is 3 × n 32-bit words: cut, start, identifier for each worker in order"
unfoldable pub plan_word : Workers → List ℕ → List ℕ → ℕ → ℕ
plan_word log cut starts j =
    cond (eqb (j % 3) 0) (at cut (j / 3)) (cond (eqb (j % 3) 1) (at starts (j / 3)) (identifier_at log (j / 3) (at starts (j / 3))))

unfoldable pub plan_words : Workers → List ℕ → List ℕ
plan_words log cut = tabulate (plan_word log cut (plan_starts log cut)) (3 * worker_count log)
