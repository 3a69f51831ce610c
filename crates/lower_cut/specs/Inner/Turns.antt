-- What the contracts of the turns of a visit cite: the workers of which a row has more than the cut, and whether a row is still the visit's.
-- Assumes nothing.
use Rattle.std.specs.Prelude.{◌≡◌, Bool, false, cond, not, ◌||◌, List, ℕ, zero, suc, ◌+◌, ◌*◌, ◌<◌, ◌≤◌, eqb, ltb, length}
use Rattle.ranges.specs.Fold.{first_from}
use Rattle.lent.specs.Lent.{at}

-- how many turns are copied from a row at once
abbrev pub turns_at_once : ℕ
turns_at_once = 16

-- the row has more of worker w than the cut
unfoldable pub is_above : List ℕ → List ℕ → ℕ → Bool
is_above cut row w = ltb (at cut w) (at row w)

-- the worker from which on turn j is looked for, where turn 0 is looked for from v on
unfoldable pub turn_from : List ℕ → List ℕ → ℕ → ℕ → ℕ
turn_from cut row v zero = v
turn_from cut row v (suc j) = suc (first_from (is_above cut row) (turn_from cut row v j) (length row))

-- the worker of turn j
unfoldable pub turn_of : List ℕ → List ℕ → ℕ → ℕ → ℕ
turn_of cut row v j = first_from (is_above cut row) (turn_from cut row v j) (length row)

-- the turns that are copied from worker v on, each with what the row has of its worker; behind the last one, where
-- there are fewer, stands the number of workers
pub record NextTurns (cut row : List ℕ) (v : ℕ) (workers events : List ℕ) : Type 0 where
  pub named : (j : ℕ) → j < turns_at_once → turn_from cut row v j ≤ length row → at workers j ≡ turn_of cut row v j
  pub up_to : (j : ℕ) → j < turns_at_once → turn_of cut row v j < length row → at events j ≡ at row (turn_of cut row v j)

-- where the rows of the visits below begin: behind the visit's own row of n words, or at it where there is but one
unfoldable pub rows_below : ℕ → ℕ → ℕ
rows_below lent n = cond (ltb lent (2 * n)) 0 n

-- whether a row is stale after a visit below: it was, or that visit has the same row and made visits itself
unfoldable pub stale_after : Bool → ℕ → ℕ → ℕ → Bool
stale_after stale below before after = stale || cond (eqb below 0) (not (eqb after (before + 1))) false
