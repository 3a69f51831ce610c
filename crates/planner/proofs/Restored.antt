-- The plan with a list of step calls: what it may use where it is not refused, and that demand 3 holds of what it leaves.
-- Assumes nothing.
use mathlib.Core.Path.{◌≡◌, refl, sym, ◌∙◌, ap}
use mathlib.Core.List.{List, ◌++◌}
use Prim.Native.Nat.{ℕ, ◌+◌, ◌*◌, ◌≤◌}
use lib.ListN.{length, take, drop}
use Rattle.lent.specs.Lent.{words_refusal, onto, unless_refused}
use Rattle.lent.proofs.Lent.{or_else_zero, words_ok, put, written, named_words}
use Rattle.event_log.specs.Layout.{workers_of}
use Rattle.event_log.specs.Model.{Workers, worker_count, IsEvent}
use Rattle.accept.specs.Refusal.{given}
use Rattle.accept.specs.WellFormed.{WellFormed}
use Rattle.lower_cut.specs.Figure2.{lower_cut}
use Rattle.refusals.proofs.Allowed.{SearchLent}
use Rattle.unit_table.specs.Table.{Table}
use Rattle.restore_plan.specs.Calls.{plan_total_words, plan_refusal, found_plan, plan_totals, planned_words}
use Rattle.restore_plan.specs.Plan.{plan_starts}
use Rattle.cost.specs.Words.{starts_in}
use Rattle.restore_plan.proofs.Written.{plan_long}
use Rattle.restore_plan.proofs.PlanTable.{plan_ok}
use Rattle.replay_machine.specs.Machine.{listed, step_words}
use Rattle.replay_machine.specs.Calls.{machine_run, machine_after, others_refusal, restore_refusal, planned_run, planned_after}
use Rattle.replay_machine.specs.Inner.State.{IsState}
use Rattle.replay_machine.specs.Demand3.{Demand3}
use Rattle.replay_machine.proofs.Demand.{starts_long, plan_held_starts, after_long, demand_3}
use Rattle.replay_machine.proofs.Call.{plan_state}
use Rattle.replay.proofs.Storing.{listed_length}
use Rattle.planner.proofs.StepWords.{step_wide}

-- what the call may use where it is not refused; the call of `plan` is then not refused either
pub record RestoreLent (s : List ℕ) (w e calls : ℕ) (table : List ℕ) (words scratch positions steps totals : ℕ) : Type 0 where
  pub search : SearchLent s w e 3 words (others_refusal (workers_of s) calls positions steps totals) scratch
  pub planned : plan_refusal (given s) w e table words (words_refusal totals plan_total_words) scratch ≡ 0
  pub placed : worker_count (workers_of s) ≤ positions
  pub stepped : calls * (worker_count (workers_of s) + 1) ≤ steps

pub restore_ok : {s : List ℕ} {w e calls : ℕ} {table : List ℕ} {words scratch positions steps totals r : ℕ} → r ≡ restore_refusal (given s) w e calls table words scratch positions steps totals → r ≡ 0
    → RestoreLent s w e calls table words scratch positions steps totals
unfolding restore_refusal others_refusal
restore_ok {s} {w} {e} {calls} {table} {words} {scratch} {positions} {steps} {totals} found none =
    let n = worker_count (workers_of s) in
    let search = (plan_ok found none).search in
    let room = search.line.rest in
    let first = or_else_zero (words_refusal totals plan_total_words) _ room in
    let second = or_else_zero (words_refusal positions n) (words_refusal steps (calls * (n + 1))) first.1 in
    record {
      search = search;
      planned = rw first.0 (rw (room) at (sym found ∙ none));
      placed = words_ok _ _ second.0;
      stepped = words_ok _ _ second.1;
    }

module _ (log : Workers) (ok : WellFormed log) (i e : ℕ) (event : IsEvent log i e) where
  -- the plan words in front of those lent, after the call of `plan`
  pub front_words : (words words' : List ℕ) (r n : ℕ) → n ≡ worker_count log → r ≡ 0 → words' ≡ unless_refused r (planned_words log i e) words
      → take (3 * n) words' ≡ planned_words log i e
  front_words words words' r n size none is =
      rw (size, is ∙ sym (put r _ _ none)) (named_words _ (planned_words log i e) words (plan_long log (lower_cut log i e)))

  -- a step over them from their starts is not refused
  pub front_state : (front : List ℕ) → front ≡ planned_words log i e → IsState log front (starts_in log front)
  front_state front is = rw (is, plan_held_starts log ok i e event) (plan_state log ok i e event)

module _ (log : Workers) (ok : WellFormed log) (i e : ℕ) (event : IsEvent log i e) (workers : List ℕ) where
  -- an answer and the positions for each call
  pub steps_long : length (listed step_words (planned_run log i e workers)) ≡ length workers * (worker_count log + 1)
  steps_long =
      let starts = plan_starts log (lower_cut log i e) in
      let long : length starts ≡ worker_count log = starts_long log ok i e event in
      rw (long) at (listed_length step_words (length starts + 1) log (planned_words log i e) workers starts workers (step_wide log (planned_words log i e) starts) starts workers refl)

  -- what the calls of `step` over them leave
  module _ (front lent left : List ℕ) (n : ℕ) (is : front ≡ planned_words log i e) (size : n ≡ worker_count log) where
    pub front_positions : left ≡ machine_after log front (starts_in log front) workers → left ++ drop n lent ≡ unless_refused 0 (planned_after log i e workers) lent
    front_positions stepped =
        let from = ap (λ (p : List ℕ). machine_after log (planned_words log i e) p workers) (plan_held_starts log ok i e event) in
        rw ((rw (is) at stepped) ∙ from) (written 0 n (planned_after log i e workers) lent refl (after_long log ok i e event workers ∙ sym size))

    pub front_steps : left ≡ listed step_words (machine_run log front (starts_in log front) workers)
        → left ++ drop (length workers * (n + 1)) lent ≡ unless_refused 0 (listed step_words (planned_run log i e workers)) lent
    front_steps stepped =
        let from = ap (λ (p : List ℕ). listed step_words (machine_run log (planned_words log i e) p workers)) (plan_held_starts log ok i e event) in
        rw ((rw (is) at stepped) ∙ from, size) (written 0 _ (listed step_words (planned_run log i e workers)) lent refl steps_long)

  -- demand 3 holds of the words named, of those that the call leaves
  pub restored : (table : Table) (words words' totals totals' positions positions' steps steps' : List ℕ)
      → words' ≡ onto (planned_words log i e) words → totals' ≡ onto (plan_totals (found_plan table log i e)) totals
      → positions' ≡ onto (planned_after log i e workers) positions → steps' ≡ onto (listed step_words (planned_run log i e workers)) steps
      → Demand3 log i e table workers (take plan_total_words totals') (take (3 * worker_count log) words') (take (worker_count log) positions') (take (length workers * (worker_count log + 1)) steps')
  unfolding plan_totals
  restored table words words' totals totals' positions positions' steps steps' a b c d =
      rw (
        a,
        b,
        c,
        d,
        named_words plan_total_words (plan_totals (found_plan table log i e)) totals refl,
        named_words _ (planned_words log i e) words (plan_long log (lower_cut log i e)),
        named_words _ (planned_after log i e workers) positions (after_long log ok i e event workers),
        named_words _ (listed step_words (planned_run log i e workers)) steps steps_long,
      )
      (demand_3 log ok i e event table workers)
