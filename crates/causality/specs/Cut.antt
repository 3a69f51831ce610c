-- Dependency vectors and cuts of document 01, "Vector and cuts". A cut is a list of one number for each worker.
-- Assumes nothing.
use Rattle.std.specs.Prelude.{◌≡◌, Bool, true, not, cond, ◌&&◌, List, ℕ, ◌+◌, ◌<◌, ◌≤◌, eqb, ltb, length}
use Rattle.ranges.specs.Fold.{any_below, max_below, sum_below, tabulate}
use Rattle.lent.specs.Lent.{at}
use Rattle.event_log.specs.Model.{Workers, worker_count, event_count, event_of}
use Rattle.records.specs.Event.{is_receive, received}

-- what event k + 1 of worker i names of worker v: its peer event where it is a receive from v, else 0
unfoldable pub named_of : Workers → ℕ → ℕ → ℕ → ℕ
named_of log i v k = cond (is_receive (event_of log i (k + 1)) && eqb (event_of log i (k + 1)).peer v) (event_of log i (k + 1)).send 0

-- "component i is e; component k is the largest peer event among receives from k in events 1..e of i, else 0"
unfoldable pub component : Workers → ℕ → ℕ → ℕ → ℕ
component log i e v = cond (eqb v i) e (max_below (named_of log i v) e)

-- "Dependency vector of event e of worker i"
unfoldable pub vector : Workers → ℕ → ℕ → List ℕ
vector log i e = tabulate (component log i e) (worker_count log)

-- "A cut gives each worker w a number from 0 to its event count"
pub record IsCut (log : Workers) (cut : List ℕ) : Type 0 where
  pub long : length cut ≡ worker_count log
  pub within : (w : ℕ) → at cut w ≤ event_count log w

-- "It is consistent when the send of every receive within it is within it": event k + 1 of w is within where k is below the cut's w
pub record Consistent (log : Workers) (cut : List ℕ) : Type 0 where
  pub is_cut : IsCut log cut
  pub closed : (w k : ℕ) → k < at cut w → is_receive (event_of log w (k + 1)) ≡ true → (event_of log w (k + 1)).send ≤ at cut (event_of log w (k + 1)).peer

-- one cut gives no worker more than another
abbrev pub Within : List ℕ → List ℕ → Type 0
Within a b = (w : ℕ) → at a w ≤ at b w

-- "the least consistent cut whose component i is at least e"
pub record IsLowerCut (log : Workers) (i e : ℕ) (cut : List ℕ) : Type 0 where
  pub consistent : Consistent log cut
  pub holds : e ≤ at cut i
  pub least : (other : List ℕ) → Consistent log other → e ≤ at other i → Within cut other

-- event k + 1 of w is a receive whose send is not within the cut
unfoldable pub lacks : Workers → List ℕ → ℕ → ℕ → Bool
lacks log cut w k = is_receive (event_of log w (k + 1)) && ltb (at cut (event_of log w (k + 1)).peer) (event_of log w (k + 1)).send

unfoldable pub worker_lacks : Workers → List ℕ → ℕ → Bool
worker_lacks log cut w = any_below (lacks log cut w) (at cut w)

-- the cut test, of words that are a cut
unfoldable pub is_consistent : Workers → List ℕ → Bool
is_consistent log cut = not (any_below (worker_lacks log cut) (worker_count log))

-- the receives within a cut
unfoldable pub receive_at : Workers → ℕ → ℕ → ℕ
receive_at log w k = received (event_of log w (k + 1))

unfoldable pub receives_of : Workers → List ℕ → ℕ → ℕ
receives_of log cut w = sum_below (receive_at log w) (at cut w)

unfoldable pub receives_within : Workers → List ℕ → ℕ
receives_within log cut = sum_below (receives_of log cut) (worker_count log)
