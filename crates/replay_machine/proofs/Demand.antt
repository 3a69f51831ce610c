-- Demand 3 holds of the plan of every accepted log and breakpoint event, with every list of worker numbers. Assumes nothing.
use mathlib.Core.Path.{◌≡◌, refl, sym, ◌∙◌, ap}
use mathlib.Core.List.{List}
use Prim.Native.Nat.{ℕ, ◌<◌}
use native.Mathlib.Omega.{arith}
use lib.ListN.{length, get_or}
use Rattle.ranges.proofs.Tabulate.{get_d_tabulate}
use Rattle.records.specs.declared.Checkpoint.{Checkpoint}
use Rattle.event_log.specs.Model.{Workers, worker_count, IsEvent}
use Rattle.records.specs.Checkpoint.{initial}
use Rattle.event_log.proofs.Read.{worker_within}
use Rattle.accept.specs.WellFormed.{WellFormed}
use Rattle.causality.specs.Cut.{Consistent, Within}
use Rattle.lower_cut.specs.Calls.{found_cut}
use Rattle.lower_cut.specs.Figure2.{lower_cut}
use Rattle.lower_cut.proofs.LowerCut.{lower_is, lower_happened}
use Rattle.lower_cut.proofs.VisitCount.{visits_few}
use Rattle.choice.specs.Choice.{starts_of}
use Rattle.restore_plan.specs.Plan.{plan_choice, plan_starts, plan_at, plan_words}
use Rattle.cost.specs.Words.{identifier_in, cuts_in, starts_in}
use Rattle.restore_plan.specs.Calls.{found_plan, plan_totals}
use Rattle.restore_plan.proofs.Written.{plan_cut, plan_shown, plan_cuts, plan_starts_in}
use Rattle.restore_plan.proofs.Latest.{AreLatest, plan_latest, plan_starts_lem, plan_starts_latest}
use Rattle.unit_table.specs.Table.{Table}
use Rattle.cost.proofs.Costs.{events_fall, units_fall}
use Rattle.replay_machine.specs.Machine.{positions_after, listed, step_words}
use Rattle.replay_machine.specs.Calls.{machine_run, machine_after}
use Rattle.replay_machine.specs.Demand3.{Rival, Demand3}
use Rattle.replay_machine.proofs.Steps.{Between, starts_between}
use Rattle.replay_machine.proofs.Lists.{after_between}
use Rattle.replay_machine.proofs.Count.{at_cut_done}
use Rattle.replay_machine.proofs.Progress.{progress}
use Rattle.replay_machine.proofs.Works.{works_exactly, works_within}

-- the third plan word of a worker is the identifier of the plan's checkpoint
pub plan_identifier : (log : Workers) (cut : List ℕ) (w : ℕ) → w < worker_count log → identifier_in (plan_words log cut) w ≡ (get_or (plan_choice log cut) w initial).identifier
unfolding plan_choice plan_at
plan_identifier log cut w h =
    plan_shown log cut w h ∙ sym (ap (λ (p : Checkpoint). p.identifier) (get_d_tabulate (plan_at log (plan_starts log cut)) (worker_count log) w initial h))

module _ (log : Workers) (ok : WellFormed log) (i e : ℕ) (event : IsEvent log i e) where
  abbrev cut : List ℕ
  cut = lower_cut log i e

  abbrev starts : List ℕ
  starts = plan_starts log cut

  consistent : Consistent log cut
  consistent = (lower_is log ok i e event).consistent

  latest : AreLatest log cut starts
  latest = plan_starts_latest log ok cut consistent.is_cut

  -- the plan words give the cut and the starts
  pub plan_held_cut : cuts_in log (plan_words log cut) ≡ cut
  plan_held_cut = plan_cuts log cut consistent.is_cut

  pub plan_held_starts : starts_in log (plan_words log cut) ≡ starts
  plan_held_starts = plan_starts_in log cut ok consistent.is_cut

  pub starts_long : length starts ≡ worker_count log
  starts_long = latest.are.long

  between : (workers : List ℕ) → Between log cut starts (positions_after log cut starts starts workers)
  between workers = after_between log cut starts starts workers (starts_between log cut starts starts_long latest.are.within)

  -- as many positions after any list of steps as there are workers
  pub after_long : (workers : List ℕ) → length (machine_after log (plan_words log cut) starts workers) ≡ worker_count log
  after_long workers = rw (plan_held_cut, plan_held_starts) (between workers).long

  no_later : (other : List Checkpoint) → Rival log cut (plan_choice log cut) other → Within (starts_of other) starts
  no_later other rival = works_within log cut consistent starts latest.latest other rival.is_choice rival.works

  pub demand_3 : (table : Table) (workers : List ℕ)
      → Demand3 log i e table workers (plan_totals (found_plan table log i e)) (plan_words log cut) (machine_after log (plan_words log cut) starts workers)
      (listed step_words (machine_run log (plan_words log cut) starts workers))
  unfolding found_plan found_cut plan_totals
  demand_3 table workers =
      record {
        planned = refl;
        counted = refl;
        within = λ w x is. rw (plan_cut log cut w (worker_within log w 0 (omega arith))) (lower_happened log ok i e event w x is);
        visited = rw (plan_held_cut) (visits_few log ok i e event);
        chosen = rw (plan_held_cut) (plan_latest log ok cut consistent.is_cut).is_choice;
        starting = rw (plan_held_cut, plan_held_starts) (plan_starts_lem log ok cut consistent.is_cut);
        identified = λ w h. rw (plan_held_cut) (plan_identifier log cut w h);
        works = rw (plan_held_cut, plan_held_starts) ((works_exactly log ok cut consistent starts starts_long latest.are.within).1 latest.are.startable);
        stepped = rw (plan_held_cut, plan_held_starts);
        placed = rw (plan_held_cut, plan_held_starts);
        progress = rw (plan_held_cut, plan_held_starts) (progress log ok cut consistent starts latest.are.startable _ (between workers));
        finished = rw (plan_held_cut, plan_held_starts) (at_cut_done log cut starts starts_long latest.are.within workers);
        latest = λ other rival.
            let later = no_later other (rw (plan_held_cut) at rival) in
            rw (plan_held_cut, plan_held_starts) (later, events_fall log cut (starts_of other) starts later, units_fall log cut (starts_of other) starts later table);
      }
