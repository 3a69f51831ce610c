-- The plan and its unit table: what a call that is not refused may use, and the plan with the built-in table. Assumes nothing.
use mathlib.Core.Path.{◌≡◌, refl, sym, ◌∙◌}
use mathlib.Core.Logic.{◌≢◌, ⊎_elim}
use mathlib.Core.List.{List}
use Prim.Native.Nat.{ℕ}
use Rattle.ranges.proofs.Order.{eq_or_ne}
use Rattle.lent.specs.Lent.{unless_refused}
use Rattle.lent.proofs.Lent.{or_else_zero, or_else_first, or_else_none, untouched}
use Rattle.event_log.specs.Layout.{workers_of}
use Rattle.event_log.specs.Model.{Workers, IsEvent}
use Rattle.accept.specs.Refusal.{Given, given}
use Rattle.accept.specs.WellFormed.{WellFormed}
use Rattle.accept.proofs.Accepted.{well_formed}
use Rattle.refusals.specs.Refusals.{search_refusal}
use Rattle.refusals.proofs.Allowed.{SearchLent, search_ok, refused_log}
use Rattle.lower_cut.specs.Figure2.{lower_cut}
use Rattle.lower_cut.proofs.LowerCut.{lower_is}
use Rattle.unit_table.specs.Table.{built_in, table_of, built_in_words, table_refusal}
use Rattle.unit_table.proofs.BuiltIn.{built_in_loads, built_in_same}
use Rattle.cost.proofs.Costs.{units_same}
use Rattle.restore_plan.specs.Plan.{plan_starts}
use Rattle.restore_plan.specs.Calls.{plan_refusal, found_plan, plan_totals}
use Rattle.restore_plan.specs.AsBefore.{AsBefore}

-- a plan that is not refused is lent enough, and its table loads
pub record PlanLent (s : List ℕ) (w e : ℕ) (table : List ℕ) (words others scratch : ℕ) : Type 0 where
  pub search : SearchLent s w e 3 words others scratch
  pub loaded : table_refusal table ≡ 0

pub plan_ok : {s : List ℕ} {w e : ℕ} {table : List ℕ} {words others scratch r : ℕ} → r ≡ plan_refusal (given s) w e table words others scratch → r ≡ 0
    → PlanLent s w e table words others scratch
unfolding plan_refusal
plan_ok {s} {w} {e} {table} {words} {others} {scratch} found none =
    let tests = or_else_zero (search_refusal (given s) w e 3 words others scratch) (table_refusal table) (sym found ∙ none) in
    record { search = search_ok refl tests.0; loaded = tests.1 }

-- a log that is refused: the chain gives its number
pub plan_refused_log : (log : Given) (w e : ℕ) (table : List ℕ) (words others scratch : ℕ) → log.refusal ≢ 0
    → plan_refusal log w e table words others scratch ≡ log.refusal
unfolding plan_refusal
plan_refused_log log w e table words others scratch h =
    let same = refused_log log w e 3 words others scratch h in
    rw (same, or_else_first log.refusal (table_refusal table) h)

-- the built-in table, which loads, refuses nothing ..
built_in_refusal : (log : Given) (w e words others scratch : ℕ) → plan_refusal log w e built_in_words words others scratch ≡ search_refusal log w e 3 words others scratch
unfolding plan_refusal
built_in_refusal log w e words others scratch = rw built_in_loads (or_else_none (search_refusal log w e 3 words others scratch))

-- .. and gives the units of document 01's table
built_in_plan : (log : Workers) → WellFormed log → (w e : ℕ) → IsEvent log w e → found_plan (table_of built_in_words) log w e ≡ found_plan built_in log w e
unfolding found_plan
built_in_plan log ok w e event =
    let cut = lower_cut log w e in
    rw (units_same log ok cut (lower_is log ok w e event).consistent.is_cut (plan_starts log cut) (table_of built_in_words) built_in built_in_same)

-- so a plan call with it is one of before
module _ (s : List ℕ) (w e words others scratch number : ℕ) (table totals left : List ℕ) (found : number ≡ plan_refusal (given s) w e table words others scratch)
    (is : left ≡ unless_refused number (plan_totals (found_plan (table_of table) (workers_of s) w e)) totals) (same : table ≡ built_in_words) where
  counted_before : left ≡ unless_refused number (plan_totals (found_plan built_in (workers_of s) w e)) totals
  counted_before = ⊎_elim none some (eq_or_ne number 0)
    where
      none : number ≡ 0 → left ≡ unless_refused number (plan_totals (found_plan built_in (workers_of s) w e)) totals
      none zero =
          let point = (plan_ok found zero).search.line.breakpoint in
          rw (← built_in_plan (workers_of s) (well_formed s point.accepted) w e point.event, ← same) is

      some : number ≢ 0 → left ≡ unless_refused number (plan_totals (found_plan built_in (workers_of s) w e)) totals
      some refused = is ∙ sym (untouched number _ totals refused) ∙ untouched number _ totals refused

  pub as_before : AsBefore (given s) w e words others scratch number totals left
  as_before = record { refused = (rw same at found) ∙ built_in_refusal (given s) w e words others scratch; counted = counted_before }
