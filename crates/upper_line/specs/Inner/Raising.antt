-- What the contracts of the functions behind the upper line cite: a line that they raise, worker by worker, as far as it can go.
-- Assumes nothing.
use Rattle.std.specs.Prelude.{◌≡◌, ◌⊎◌, ◌≢◌, Bool, false, ◌&&◌, ◌||◌, List, ℕ, ◌+◌, ◌<◌, ◌≤◌, eqb, ltb}
use Rattle.event_log.specs.Model.{Workers, event_of}
use Rattle.records.specs.Event.{is_receive}
use Rattle.causality.specs.Happened.{HappenedBefore}
use Rattle.lent.specs.Lent.{at}
use Rattle.causality.specs.Cut.{IsCut, Within}

-- event k + 1 of worker w is a receive of a send beyond the line, or of the message of the breakpoint event itself
unfoldable pub blocked : Workers → ℕ → ℕ → List ℕ → ℕ → ℕ → Bool
blocked log i e line w k =
    is_receive (event_of log w (k + 1))
    && (ltb (at line (event_of log w (k + 1)).peer) (event_of log w (k + 1)).send
    || (eqb (event_of log w (k + 1)).peer i && eqb (event_of log w (k + 1)).send e))

-- the breakpoint event happened before the first event of worker w past the line
abbrev pub Stuck : Workers → ℕ → ℕ → List ℕ → ℕ → Type 0
Stuck log i e line w = HappenedBefore log i e w (at line w + 1)

-- a line that ends at the breakpoint event and in which no event of another worker is blocked
pub record Passed (log : Workers) (i e : ℕ) (line : List ℕ) : Type 0 where
  pub is_cut : IsCut log line
  pub own : at line i ≡ e
  pub free : (w k : ℕ) → w ≢ i → k < at line w → blocked log i e line w k ≡ false

-- what moving worker w on to event `target` makes of a line: w is there, or the breakpoint event happened before its next event
pub record Raised (log : Workers) (i e w target : ℕ) (line new : List ℕ) : Type 0 where
  pub passed : Passed log i e new
  pub grown : Within line new
  pub reached : (target ≤ at new w) ⊎ Stuck log i e new w
