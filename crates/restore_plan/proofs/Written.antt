-- The plan words read back: the cut, the starts, and that they are held over the log.
-- Assumes nothing.
use mathlib.Core.Path.{◌≡◌, ◌∙◌}
use mathlib.Core.List.{List}
use Prim.Native.Nat.{ℕ, ◌+◌, ◌*◌, ◌/◌, ◌%◌, ◌<◌}
use native.Mathlib.Omega.{arith}
use lib.ListN.{length}
use Rattle.ranges.proofs.Tabulate.{length_tabulate, get_d_tabulate}
use Rattle.event_log.specs.Model.{Workers, worker_count, IsEvent}
use Rattle.event_log.specs.Layout.{workers_of}
use Rattle.accept.specs.Refusal.{log_refusal}
use Rattle.accept.specs.WellFormed.{WellFormed}
use Rattle.accept.proofs.Accepted.{well_formed}
use Rattle.lower_cut.specs.Figure2.{lower_cut}
use Rattle.lower_cut.proofs.LowerCut.{lower_is}
use Rattle.lent.specs.Lent.{at}
use Rattle.causality.specs.Cut.{IsCut}
use Rattle.restore_plan.specs.Plan.{identifier_at, plan_starts, plan_word, plan_words}
use Rattle.cost.specs.Words.{cut_in, start_in, identifier_in, cuts_in, starts_in}
use Rattle.cost.specs.Inner.Held.{IsHeld}
use Rattle.restore_plan.proofs.Latest.{plan_starts_latest}
use Rattle.cost.proofs.Held.{cuts_are, starts_are}

module _ (log : Workers) (cut : List ℕ) where
  pub plan_long : length (plan_words log cut) ≡ 3 * worker_count log
  unfolding plan_words
  plan_long = length_tabulate (plan_word log cut (plan_starts log cut)) (3 * worker_count log)

  pub plan_cut : (w : ℕ) → w < worker_count log → cut_in (plan_words log cut) w ≡ at cut w
  unfolding plan_words cut_in plan_word
  plan_cut w h =
      let r : (3 * w) % 3 ≡ 0 = omega arith in
      let q : (3 * w) / 3 ≡ w = omega arith in
      get_d_tabulate (plan_word log cut (plan_starts log cut)) (3 * worker_count log) (3 * w) 0 (omega arith) ∙ rw (r, q)

  pub plan_start : (w : ℕ) → w < worker_count log → start_in (plan_words log cut) w ≡ at (plan_starts log cut) w
  unfolding plan_words start_in plan_word
  plan_start w h =
      let r : (3 * w + 1) % 3 ≡ 1 = omega arith in
      let q : (3 * w + 1) / 3 ≡ w = omega arith in
      get_d_tabulate (plan_word log cut (plan_starts log cut)) (3 * worker_count log) (3 * w + 1) 0 (omega arith) ∙ rw (r, q)

  pub plan_shown : (w : ℕ) → w < worker_count log → identifier_in (plan_words log cut) w ≡ identifier_at log w (at (plan_starts log cut) w)
  unfolding plan_words identifier_in plan_word
  plan_shown w h =
      let r : (3 * w + 2) % 3 ≡ 2 = omega arith in
      let q : (3 * w + 2) / 3 ≡ w = omega arith in
      get_d_tabulate (plan_word log cut (plan_starts log cut)) (3 * worker_count log) (3 * w + 2) 0 (omega arith) ∙ rw (r, q)

  -- the plan words give the cut ..
  pub plan_cuts : IsCut log cut → cuts_in log (plan_words log cut) ≡ cut
  plan_cuts is_cut = cuts_are log (plan_words log cut) cut is_cut.long plan_cut

  -- .. and the starts
  pub plan_starts_in : WellFormed log → IsCut log cut → starts_in log (plan_words log cut) ≡ plan_starts log cut
  plan_starts_in ok is_cut =
      starts_are log (plan_words log cut) (plan_starts log cut) (plan_starts_latest log ok cut is_cut).are.long plan_start

-- the plan words are held
pub plan_held : (log : Workers) → WellFormed log → (cut : List ℕ) → IsCut log cut → IsHeld log (plan_words log cut)
plan_held log ok cut is_cut =
    let c = plan_cuts log cut is_cut in
    let p = plan_starts_in log cut ok is_cut in
    record { long = plan_long log cut; is_cut = rw c is_cut; within = rw (c, p) (plan_starts_latest log ok cut is_cut).are.within }

module _ (s : List ℕ) (i e : ℕ) (accepted : log_refusal s ≡ 0) (event : IsEvent (workers_of s) i e) where
  -- the lower cut of an event of an accepted log is a cut
  pub lower_is_cut : IsCut (workers_of s) (lower_cut (workers_of s) i e)
  lower_is_cut = (lower_is (workers_of s) (well_formed s accepted) i e event).consistent.is_cut

  -- the words of its plan are held over the log
  pub lower_held : (words cut : List ℕ) → words ≡ plan_words (workers_of s) cut → cut ≡ lower_cut (workers_of s) i e → (log_refusal s ≡ 0) × IsHeld (workers_of s) words
  lower_held words cut plan lower = (accepted, rw (plan, lower) (plan_held (workers_of s) (well_formed s accepted) (lower_cut (workers_of s) i e) lower_is_cut))
