-- The floor under every start: a covering set at or below the lower cut is a startable choice for it, and the plan is the latest.
-- Assumes nothing.
use mathlib.Core.Path.{◌≡◌}
use mathlib.Core.Bool.{true}
use mathlib.Core.List.{List, ◌++◌}
use Prim.Native.Nat.{ℕ, ◌*◌}
use native.Mathlib.Omega.{arith}
use lib.ListN.{take, drop}
use lib.Seq.{take_at}
use Rattle.records.specs.declared.Checkpoint.{Checkpoint}
use Rattle.event_log.specs.Model.{Workers, worker_count, IsEvent}
use Rattle.accept.specs.WellFormed.{WellFormed}
use Rattle.causality.specs.Cut.{IsCut}
use Rattle.lower_cut.specs.Figure2.{lower_cut}
use Rattle.lower_cut.proofs.LowerCut.{lower_is}
use Rattle.choice.specs.Choice.{IsChoice, starts_of, Startable, loses_send, lost_at, worker_lost, is_startable}
use Rattle.choice.proofs.Startable.{starts_at, startable_within, choice_within}
use Rattle.covering.specs.Covering.{cut_of_all, StartableSet, covering_set}
use Rattle.covering.proofs.CoveringSet.{all_at, choice_set, set_point_lem, startable_set_iff, initial_covers, initial_index}
use Rattle.restore_plan.specs.Plan.{plan_words}
use Rattle.restore_plan.specs.Floor.{AtOrBelow, NoneBefore, Floor}
use Rattle.restore_plan.proofs.Latest.{plan_starts_latest}
use Rattle.restore_plan.proofs.Written.{plan_long, plan_start}

module _ (log : Workers) (ok : WellFormed log) (cut : List ℕ) (is_cut : IsCut log cut) (t : ℕ) where
  -- the checkpoints of a startable set are a choice for every cut that none of them is beyond ..
  set_choice_within : (choice : List Checkpoint) → StartableSet log t choice → AtOrBelow log t cut → IsChoice log cut choice
  set_choice_within choice s below =
      choice_within log cut (cut_of_all log) choice s.is_choice
      (λ w h.
      let o = s.is_choice.offered w h in
      rw o.2 at (below w o.0 h (choice_set log t ok choice s w h)))

  -- .. and startable for it
  set_startable_within : (choice : List Checkpoint) → StartableSet log t choice → Startable log cut (starts_of choice)
  set_startable_within choice s =
      startable_within log cut (cut_of_all log) (starts_of choice) (λ w. omega (arith, all_at log w, is_cut.within w)) s.startable

  -- the plan is the latest, so it starts no worker before them
  none_before : covering_set log t ≡ true → AtOrBelow log t cut → NoneBefore log t (plan_words log cut)
  none_before covers below w c h set =
      let (choice, s) = (startable_set_iff log t ok).0 covers in
      let latest = (plan_starts_latest log ok cut is_cut).latest choice (set_choice_within choice s below) (set_startable_within choice s) w in
      rw (plan_start log cut w h, set_point_lem log t ok choice s w c h set, ← starts_at choice w) latest

module _ (log : Workers) (ok : WellFormed log) (i e : ℕ) (event : IsEvent log i e) where
  -- the floor holds of the words of the plan; the covering test is unfolded, so that the record may have it written out
  pub floor : Floor log i e (plan_words log (lower_cut log i e))
  unfolding covering_set is_startable worker_lost lost_at loses_send
  floor =
      record {
        floor = none_before log ok (lower_cut log i e) (lower_is log ok i e event).consistent.is_cut;
        included = (initial_covers log ok, λ w c h set. rw (initial_index log ok w c set) (omega arith));
      }

  -- .. and of the words that a call leaves in front of the others
  pub floor_left : (n : ℕ) (found lent : List ℕ) → found ≡ plan_words log (lower_cut log i e) → Floor log i e (take (3 * worker_count log) (found ++ drop n lent))
  floor_left n found lent is =
      rw (is, take_at (plan_words log (lower_cut log i e)) (drop n lent) (3 * worker_count log) (plan_long log (lower_cut log i e))) floor
