-- Later starts replay no more events and no more units; both sums fit a 64-bit word; and tables that agree give the same units.
-- Assumes nothing.
use mathlib.Core.Path.{◌≡◌, refl}
use mathlib.Core.Bool.{Bool, true, false, cond}
use mathlib.Core.Logic.{◌≢◌}
use mathlib.Core.List.{List}
use Prim.Native.Nat.{ℕ, ◌+◌, ◌*◌, ◌^◌, ◌<◌, ◌≤◌}
use native.Mathlib.Nat.{le_trans, mul-le-mul_right}
use native.Mathlib.Omega.{arith}
use borrow.Author.Tests.{leb-true, le-leb}
use lib.Dec.{leb}
use Rattle.ranges.proofs.Sum.{sum_bound, sum_le, sum_same}
use Rattle.event_log.specs.Limits.{max_workers, max_events}
use Rattle.records.specs.declared.Kind.{Kind}
use Rattle.records.specs.declared.Kind.TheVariants.{Send, Unlogged, Logged, Rest}
use Rattle.records.specs.Kind.{column}
use Rattle.event_log.specs.Model.{Workers, worker_count, role_of, event_count, event_of}
use Rattle.accept.specs.WellFormed.{WellFormed}
use Rattle.accept.proofs.Accepted.{known_kind}
use Rattle.lent.specs.Lent.{at}
use Rattle.causality.specs.Cut.{Within, IsCut}
use Rattle.unit_table.specs.Table.{max_units, Table}
use Rattle.cost.specs.Cost.{replayed, events_of, event_units, worker_units, units_of}

-- ---- later starts
module _ (log : Workers) (cut a b : List ℕ) (later : Within a b) where
  -- later starts replay no more events
  pub events_fall : events_of log cut b ≤ events_of log cut a
  unfolding events_of replayed
  events_fall = sum_le (replayed cut b) (replayed cut a) (worker_count log) (λ w h. let l = later w in omega arith)

  event_units_fall : (table : Table) (w k : ℕ) → event_units table log b w k ≤ event_units table log a w k
  unfolding event_units
  event_units_fall table w k = go (leb (at b w) k) refl
    where
      go : (t : Bool) → leb (at b w) k ≡ t
          → cond t (table (role_of log w) (event_of log w (k + 1)).kind) 0 ≤ cond (leb (at a w) k) (table (role_of log w) (event_of log w (k + 1)).kind) 0
      go true q = rw (le-leb (at a w) k (omega (arith, later w, leb-true (at b w) k q))) (omega arith)
      go false q = omega arith

  -- and no more units, by any table
  pub units_fall : (table : Table) → units_of table log cut b ≤ units_of table log cut a
  unfolding units_of worker_units
  units_fall table =
      sum_le (worker_units table log cut b) (worker_units table log cut a) (worker_count log)
      (λ w h. sum_le (event_units table log b w) (event_units table log a w) (at cut w) (λ k l. event_units_fall table w k))

-- ---- bounds
-- a kind of the record table has a column
known_column : (kind : Kind) → kind ≢ Rest → column kind < 3
known_column Send h = omega arith
known_column Unlogged h = omega arith
known_column Logged h = omega arith
known_column Rest h = absurd (h refl)

module _ (log : Workers) (ok : WellFormed log) (cut : List ℕ) (is_cut : IsCut log cut) (starts : List ℕ) where
  cut_bound : (w : ℕ) → at cut w ≤ max_events
  cut_bound w = omega (arith, is_cut.within w, ok.events w)

  -- a worker replays at most 65,535 events
  pub worker_events_bound : (w : ℕ) → replayed cut starts w ≤ max_events
  unfolding replayed
  worker_events_bound w = omega (arith, cut_bound w)

  -- at most 64 workers replay at most so many each
  pub events_bound : events_of log cut starts ≤ max_workers * max_events
  unfolding events_of
  events_bound =
      let each = sum_bound (replayed cut starts) (worker_count log) max_events (λ w h. worker_events_bound w) in
      omega (arith, ok.few)

  -- so they fit a 64-bit word
  pub events_fit : events_of log cut starts < 2 ^ 64
  events_fit = omega (arith, events_bound)

  -- by a table with no entry above m, at most 65,535 times m for each worker
  pub worker_units_bound : (table : Table) (m : ℕ) → ((role : ℕ) (kind : Kind) → table role kind ≤ m) → (w : ℕ) → worker_units table log cut starts w ≤ max_events * m
  unfolding worker_units event_units
  worker_units_bound table m most w =
      le_trans (sum_bound (event_units table log starts w) (at cut w) m (λ k l. each k (leb (at starts w) k))) (mul-le-mul_right m (cut_bound w))
    where
      each : (k : ℕ) (t : Bool) → cond t (table (role_of log w) (event_of log w (k + 1)).kind) 0 ≤ m
      each k true = most (role_of log w) (event_of log w (k + 1)).kind
      each k false = omega arith

  pub units_bound : (table : Table) (m : ℕ) → ((role : ℕ) (kind : Kind) → table role kind ≤ m) → units_of table log cut starts ≤ worker_count log * (max_events * m)
  unfolding units_of
  units_bound table m most =
      sum_bound (worker_units table log cut starts) (worker_count log) (max_events * m) (λ w h. worker_units_bound table m most w)

  -- so they fit a 64-bit word where no entry is above 1,000
  pub units_fit : (table : Table) → ((role : ℕ) (kind : Kind) → table role kind ≤ max_units) → units_of table log cut starts < 2 ^ 64
  units_fit table most = let all = units_bound table max_units most in omega (arith, ok.few)

  -- two tables that agree in the roles and kinds of a log give the same units
  pub units_same : (a b : Table) → ((role : ℕ) (kind : Kind) → role < 4 → column kind < 3 → a role kind ≡ b role kind)
      → units_of a log cut starts ≡ units_of b log cut starts
  unfolding units_of worker_units event_units
  units_same a b same =
      sum_same (worker_units a log cut starts) (worker_units b log cut starts) (worker_count log)
      (λ w h.
      sum_same (event_units a log starts w) (event_units b log starts w) (at cut w)
      (λ k l.
      let inside : k + 1 ≤ event_count log w = omega (arith, is_cut.within w) in
      let known = known_column (event_of log w (k + 1)).kind (known_kind log ok w (k + 1) (omega arith) inside) in
      rw (same (role_of log w) (event_of log w (k + 1)).kind (omega (arith, ok.roles w)) known)))
