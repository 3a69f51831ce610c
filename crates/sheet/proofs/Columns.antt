-- What a plan adds to each column of the sheet, and at most. Assumes nothing.
use mathlib.Core.Path.{◌≡◌}
use mathlib.Core.Bool.{Bool, true, false, cond}
use mathlib.Core.List.{List}
use Prim.Native.Nat.{ℕ, ◌+◌, ◌*◌, ◌/◌, ◌%◌, ◌≤◌}
use native.Mathlib.Omega.{arith}
use lib.Dec.{eqb, ltb}
use Rattle.lent.specs.Lent.{at, word_of}
use Rattle.lent.proofs.Left.{word_few}
use Rattle.event_log.specs.Limits.{max_events}
use Rattle.event_log.specs.Model.{Workers}
use Rattle.accept.specs.WellFormed.{WellFormed}
use Rattle.causality.specs.Cut.{IsCut}
use Rattle.records.specs.declared.Kind.{Kind}
use Rattle.unit_table.specs.Table.{Table, max_units}
use Rattle.cost.specs.Cost.{replayed, worker_units}
use Rattle.cost.proofs.Costs.{worker_events_bound, worker_units_bound}
use Rattle.sheet.specs.Sheet.{plan_adds}

module _ (table : Table) (log : Workers) (cut starts : List ℕ) where
  -- word j by its column
  module _ (j : ℕ) where
    pub adds_events : j % 3 ≡ 0 → plan_adds table log cut starts j ≡ replayed cut starts (j / 3)
    unfolding plan_adds
    adds_events r = rw r

    pub adds_units : j % 3 ≡ 1 → plan_adds table log cut starts j ≡ worker_units table log cut starts (j / 3)
    unfolding plan_adds
    adds_units r = rw r

    pub adds_plans : j % 3 ≡ 2 → plan_adds table log cut starts j ≡ word_of (ltb (at starts (j / 3)) (at cut (j / 3)))
    unfolding plan_adds
    adds_plans r = rw r

  -- the three words of worker w
  module _ (w : ℕ) where
    pub events_of_worker : plan_adds table log cut starts (3 * w) ≡ replayed cut starts w
    events_of_worker = let q : (3 * w) / 3 ≡ w = omega arith in rw q at (adds_events (3 * w) (omega arith))

    pub units_of_worker : plan_adds table log cut starts (3 * w + 1) ≡ worker_units table log cut starts w
    units_of_worker = let q : (3 * w + 1) / 3 ≡ w = omega arith in rw q at (adds_units (3 * w + 1) (omega arith))

    pub plans_of_worker : plan_adds table log cut starts (3 * w + 2) ≡ word_of (ltb (at starts w) (at cut w))
    plans_of_worker = let q : (3 * w + 2) / 3 ≡ w = omega arith in rw q at (adds_plans (3 * w + 2) (omega arith))

-- by a table with no entry above 1,000, no word gets more than 65,535 events of so many units
pub adds_bound : (table : Table) (log : Workers) → WellFormed log → (cut starts : List ℕ) → IsCut log cut → ((role : ℕ) (kind : Kind) → table role kind ≤ max_units)
    → (j : ℕ) → plan_adds table log cut starts j ≤ max_events * max_units
unfolding plan_adds
adds_bound table log ok cut starts is_cut most j = go (eqb (j % 3) 0) (eqb (j % 3) 1)
  where
    go : (a b : Bool)
        → cond a (replayed cut starts (j / 3)) (cond b (worker_units table log cut starts (j / 3)) (word_of (ltb (at starts (j / 3)) (at cut (j / 3))))) ≤ max_events * max_units
    go true b = omega (arith, worker_events_bound log ok cut is_cut starts (j / 3))
    go false true = worker_units_bound log ok cut is_cut starts table max_units most (j / 3)
    go false false = omega (arith, word_few (ltb (at starts (j / 3)) (at cut (j / 3))))
