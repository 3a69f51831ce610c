-- The computed plan is the latest startable choice, and its starts are unique.
-- Assumes nothing.
use mathlib.Core.Path.{◌≡◌, sym, ◌∙◌, ap}
use mathlib.Core.Logic.{◌⊎◌, inl, inr, ⊎_elim}
use mathlib.Core.List.{List}
use Prim.Native.Nat.{ℕ, suc, ◌+◌, ◌<◌, ◌≤◌}
use native.Mathlib.Omega.{arith}
use lib.ListN.{length, get_or, length-map}
use lib.Seq.{ext_get_or}
use Rattle.ranges.specs.Fold.{sum_below}
use Rattle.ranges.proofs.Order.{lt_or_le}
use Rattle.ranges.proofs.Sum.{sum_le, sum_tight}
use Rattle.ranges.proofs.Sweep.{sweep_keeps}
use Rattle.records.specs.declared.Checkpoint.{Checkpoint}
use Rattle.event_log.specs.Model.{Workers, worker_count}
use Rattle.records.specs.Checkpoint.{initial}
use Rattle.accept.specs.WellFormed.{WellFormed}
use Rattle.lent.specs.Lent.{at}
use Rattle.causality.specs.Cut.{Within, IsCut}
use Rattle.choice.specs.Choice.{IsChoice, starts_of, Startable, IsLatest}
use Rattle.restore_plan.specs.Plan.{rolled_back, plan_starts, plan_choice}
use Rattle.choice.proofs.Startable.{same_starts}
use Rattle.restore_plan.proofs.Chosen.{AreStarts, IsLastAt, choice_starts, plan_last, chosen, chosen_at, chosen_starts, chosen_choice, chosen_startable}
use Rattle.restore_plan.proofs.RolledBack.{length_rolled_back, rolled_back_within, rolled_back_above, rolled_back_fixed}

-- the latest starts: startable, indices of checkpoints at most the cut, and no startable choice has a later one
pub record AreLatest (log : Workers) (cut starts : List ℕ) : Type 0 where
  pub are : AreStarts log cut starts
  pub latest : (other : List Checkpoint) → IsChoice log cut other → Startable log cut (starts_of other) → Within (starts_of other) starts

-- the starts after some rounds from the cut: another round moves nothing, or each round took one event at least
record Round (log : Workers) (cut : List ℕ) (rounds : ℕ) (starts : List ℕ) : Type 0 where
  long : length starts ≡ worker_count log
  within : Within starts cut
  above : (other : List ℕ) → AreStarts log cut other → Within other starts
  falls : (rolled_back log cut starts ≡ starts) ⊎ (sum_below (at starts) (worker_count log) + rounds ≤ sum_below (at cut) (worker_count log))

module _ (log : Workers) (cut : List ℕ) (is_cut : IsCut log cut) where
  -- a round that takes no event moves nothing
  unmoved : (starts : List ℕ) → length starts ≡ worker_count log
      → sum_below (at starts) (worker_count log) ≤ sum_below (at (rolled_back log cut starts)) (worker_count log) → rolled_back log cut starts ≡ starts
  unmoved starts long total =
      let same = length_rolled_back log cut is_cut starts in
      let all : (v : ℕ) → v < worker_count log → at (rolled_back log cut starts) v ≤ at starts v = λ v l. rolled_back_within log cut is_cut starts v in
      let sums = sum_le (at (rolled_back log cut starts)) (at starts) (worker_count log) all in
      ext_get_or 0 (rolled_back log cut starts) starts (same ∙ sym long)
      (λ w h. sum_tight (at (rolled_back log cut starts)) (at starts) (worker_count log) all (omega arith) w (omega arith))

  round : (k : ℕ) (starts : List ℕ) → Round log cut k starts → Round log cut (suc k) (rolled_back log cut starts)
  round k starts r =
      record {
        long = length_rolled_back log cut is_cut starts;
        within = λ w. omega (arith, rolled_back_within log cut is_cut starts w, r.within w);
        above = λ other are. rolled_back_above log cut is_cut starts other are (r.above other are);
        falls = ⊎_elim (λ e. inl (ap (rolled_back log cut) e)) more r.falls;
      }
    where
      more : sum_below (at starts) (worker_count log) + k ≤ sum_below (at cut) (worker_count log)
          → (rolled_back log cut (rolled_back log cut starts) ≡ rolled_back log cut starts) ⊎ (sum_below (at (rolled_back log cut starts)) (worker_count log) + suc k ≤ sum_below (at cut) (worker_count log))
      more h =
          ⊎_elim (λ l. inr (omega arith)) (λ l. inl (ap (rolled_back log cut) (unmoved starts r.long l)))
          (lt_or_le (sum_below (at (rolled_back log cut starts)) (worker_count log)) (sum_below (at starts) (worker_count log)))

  rounds : Round log cut (sum_below (at cut) (worker_count log)) (plan_starts log cut)
  unfolding plan_starts
  rounds =
      sweep_keeps (λ k starts. rolled_back log cut starts) (Round log cut) (sum_below (at cut) (worker_count log)) cut
      (record { long = is_cut.long; within = λ w. omega arith; above = λ other are. are.within; falls = inr (omega arith) })
      (λ k starts h r. round k starts r)

  -- after as many rounds as the cut has events nothing moves
  pub plan_fixed : rolled_back log cut (plan_starts log cut) ≡ plan_starts log cut
  plan_fixed = ⊎_elim (λ e. e) (λ l. unmoved (plan_starts log cut) rounds.long (omega arith)) rounds.falls

-- there is one list of latest starts only
pub latest_unique : (log : Workers) (cut a b : List ℕ) → AreLatest log cut a → AreLatest log cut b → a ≡ b
latest_unique log cut a b first second = same_starts a b (first.are.long ∙ sym second.are.long) (below a b first second) (below b a second first)
  where
    below : (c d : List ℕ) → AreLatest log cut c → AreLatest log cut d → Within c d
    below c d one two =
        let w = two.latest (chosen log c) (chosen_choice log c cut one.are) (chosen_startable log c cut one.are) in
        rw (chosen_starts log c one.are.long) at w

-- two latest choices have the same starts; where a worker has two recorded checkpoints of one index, they may be two choices
pub latest_starts_unique : (log : Workers) (cut : List ℕ) (a b : List Checkpoint) → IsLatest log cut a → IsLatest log cut b → starts_of a ≡ starts_of b
latest_starts_unique log cut a b first second =
    same_starts (starts_of a) (starts_of b)
    (length-map a (λ (p : Checkpoint). p.index) ∙ first.is_choice.long ∙ sym (length-map b (λ (p : Checkpoint). p.index) ∙ second.is_choice.long))
    (second.latest a first.is_choice first.startable) (first.latest b second.is_choice second.startable)

module _ (log : Workers) (ok : WellFormed log) (cut : List ℕ) (is_cut : IsCut log cut) where
  -- the computed starts are the latest
  pub plan_starts_latest : AreLatest log cut (plan_starts log cut)
  plan_starts_latest =
      let r = rounds log cut is_cut in
      record {
        are = rolled_back_fixed log cut is_cut (plan_starts log cut) ok r.within (plan_fixed log cut is_cut);
        latest = λ other is startable. r.above (starts_of other) (choice_starts log cut other is startable);
      }

  -- starts that are the latest are the computed ones, in whatever order they were found
  pub latest_is_plan : (starts : List ℕ) → AreLatest log cut starts → starts ≡ plan_starts log cut
  latest_is_plan starts latest = latest_unique log cut starts (plan_starts log cut) latest plan_starts_latest

  -- the plan's starts are the computed ones
  pub plan_starts_lem : starts_of (plan_choice log cut) ≡ plan_starts log cut
  unfolding plan_choice chosen
  plan_starts_lem = chosen_starts log (plan_starts log cut) plan_starts_latest.are.long

  -- the computed plan is the latest startable choice
  pub plan_latest : IsLatest log cut (plan_choice log cut)
  unfolding plan_choice chosen
  plan_latest =
      let l = plan_starts_latest in
      record {
        is_choice = chosen_choice log (plan_starts log cut) cut l.are;
        startable = chosen_startable log (plan_starts log cut) cut l.are;
        latest = λ other is startable. rw plan_starts_lem (l.latest other is startable);
      }

  -- the plan's checkpoint of a worker is the last one with its index
  pub plan_identified : (w : ℕ) → w < worker_count log → (c : ℕ) × IsLastAt log w (get_or (plan_choice log cut) w initial) c
  unfolding plan_choice chosen
  plan_identified w h = rw (chosen_at log (plan_starts log cut) w h) (plan_last log (plan_starts log cut) w (plan_starts_latest.are.offered w h))
