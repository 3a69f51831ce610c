-- The lower cut, found as in the paper's Figure 2.
-- Assumes nothing.
use Rattle.std.specs.Prelude.{Bool, true, false, List, ℕ, zero, suc, ◌+◌, ltb, set, replicate}
use Rattle.ranges.specs.Fold.{sweep}
use Rattle.event_log.specs.Model.{Workers, worker_count, event_of}
use Rattle.lent.specs.Lent.{at}
use Rattle.causality.specs.Cut.{component}

-- the cut so far and the visits made so far
pub record Found : Type 0 where
  pub cut : List ℕ
  pub visits : ℕ

-- "Visits counts every visit, the first included"
abbrev pub counted : Found → Found
counted s = record { cut = s.cut; visits = s.visits + 1 }

abbrev pub stored : Found → ℕ → ℕ → Found
stored s v d = record { cut = set s.cut v d; visits = s.visits }

-- where the test holds, the component d of worker v "is stored in the cut and then visited"
unfoldable pub turn_if : Bool → (ℕ → ℕ → Found → Found) → ℕ → ℕ → Found → Found
turn_if true go v d s = go v d (stored s v d)
turn_if false go v d s = s

-- worker v's turn in a visit to event e of worker i: "each component of that event's own vector above the cut's"
unfoldable pub turn : (ℕ → ℕ → Found → Found) → Workers → ℕ → ℕ → ℕ → Found → Found
turn go log i e v s = turn_if (ltb (at s.cut v) (component log i e v)) go v (component log i e v) s

-- "a visit to an event goes through workers in rising number .. before the next worker". The first argument bounds the depth: "A visit
-- leads only to events with smaller stamps", so any number above the event's stamp gives the same.
unfoldable pub visit : ℕ → Workers → ℕ → ℕ → Found → Found
visit zero log i e s = s
visit (suc depth) log i e s = sweep (turn (λ v d t. visit depth log v d t) log i e) (worker_count log) (counted s)

-- the visit, with a depth that is enough: the event's stamp, and one
unfoldable pub visit_at : Workers → ℕ → ℕ → Found → Found
visit_at log i e s = visit (suc (event_of log i e).stamp) log i e s

-- "from a cut of e for i and 0 elsewhere"
unfoldable pub beginning : Workers → ℕ → ℕ → Found
beginning log i e = record { cut = set (replicate (worker_count log) 0) i e; visits = 0 }

unfoldable pub figure2 : Workers → ℕ → ℕ → Found
figure2 log i e = visit_at log i e (beginning log i e)

-- "Lower cut of breakpoint event e of worker i"
abbrev pub lower_cut : Workers → ℕ → ℕ → List ℕ
lower_cut log i e = (figure2 log i e).cut
