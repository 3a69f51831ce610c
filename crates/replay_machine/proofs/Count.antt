-- The steps done by a list are what the positions rise by: all are at their cuts exactly when the steps done number the events to replay.
-- Assumes nothing.
use mathlib.Core.Path.{◌≡◌, ◌∙◌}
use mathlib.Core.Logic.{⊎_elim, ◌↔◌}
use mathlib.Core.List.{List, [], ◌∷◌}
use Prim.Native.Nat.{ℕ, ◌+◌}
use native.Mathlib.Omega.{arith}
use borrow.Author.Tests.{eq-eqb, ne_eqb}
use lib.ListN.{length}
use Rattle.ranges.specs.Fold.{sum_below}
use Rattle.ranges.proofs.Order.{eq_or_ne}
use Rattle.ranges.proofs.Sum.{sum_same, sum_tight, sum_raised, sum_add}
use Rattle.event_log.specs.Model.{Workers, worker_count}
use Rattle.lent.specs.Lent.{at}
use Rattle.causality.specs.Cut.{Within}
use Rattle.cost.specs.Cost.{replayed, events_of}
use Rattle.replay_machine.specs.Machine.{answer_of, moved, step_of, run, positions_after, done_if, done_in, AtCut}
use Rattle.replay_machine.proofs.Steps.{starts_between, done_ready, refused, done_raises, moved_long}
use Rattle.replay_machine.proofs.Lists.{after_between}

-- a done step counts as one
pub done_counts : (answer : ℕ) → answer ≡ 0 → done_if answer ≡ 1
unfolding done_if
done_counts answer e = rw e

-- positions within the cut are at it exactly when their sums agree
pub at_cut_sum : (log : Workers) (cut positions : List ℕ) → Within positions cut
    → AtCut log cut positions ↔ (sum_below (at positions) (worker_count log) ≡ sum_below (at cut) (worker_count log))
at_cut_sum log cut positions high =
    (sum_same (at positions) (at cut) (worker_count log), sum_tight (at positions) (at cut) (worker_count log) (λ w h. high w))

module _ (log : Workers) (cut starts : List ℕ) where
  -- one step raises the sum of the positions by one where it is done, else by nothing
  pub moved_sum : (positions : List ℕ) (w : ℕ) → length positions ≡ worker_count log
      → sum_below (at (moved log cut starts positions w)) (worker_count log) ≡ sum_below (at positions) (worker_count log) + done_if (answer_of log cut starts positions w)
  unfolding done_if
  moved_sum positions w long =
      ⊎_elim
      (λ e.
      let raised = done_raises log cut starts positions w (omega arith) e in
      rw (eq-eqb (answer_of log cut starts positions w) 0 e)
      (sum_raised (at positions) (at (moved log cut starts positions w)) (worker_count log) w ((done_ready log cut starts positions w).0 e).worker raised.here raised.others))
      (λ other. rw (refused log cut starts positions w other, ne_eqb (answer_of log cut starts positions w) 0 other) (omega arith))
      (eq_or_ne (answer_of log cut starts positions w) 0)

  -- a list of steps raises the sum of the positions by the steps done
  pub after_sum : (positions workers : List ℕ) → length positions ≡ worker_count log
      → sum_below (at (positions_after log cut starts positions workers)) (worker_count log) ≡ sum_below (at positions) (worker_count log) + done_in (run log cut starts positions workers)
  unfolding run positions_after done_in step_of
  after_sum positions [] long = omega arith
  after_sum positions (w ∷ workers) long =
      let here = moved_sum positions w long in
      let rest = after_sum (moved log cut starts positions w) workers (moved_long log cut starts positions w ∙ long) in
      omega arith

  -- the sum of the cut is that of the starts and the events between them
  pub cut_sum : Within starts cut → sum_below (at starts) (worker_count log) + events_of log cut starts ≡ sum_below (at cut) (worker_count log)
  unfolding events_of replayed
  cut_sum within = sum_add (at starts) (replayed cut starts) (at cut) (worker_count log) (λ w h. let l = within w in omega arith)

  -- all are at their cuts exactly when the steps done number the events
  pub at_cut_done : length starts ≡ worker_count log → Within starts cut → (workers : List ℕ)
      → AtCut log cut (positions_after log cut starts starts workers) ↔ (done_in (run log cut starts starts workers) ≡ events_of log cut starts)
  at_cut_done long within workers =
      let between = after_between log cut starts starts workers (starts_between log cut starts long within) in
      let sums = at_cut_sum log cut (positions_after log cut starts starts workers) between.high in
      let risen = after_sum starts workers long in
      let whole = cut_sum within in
      ((λ all. let e = sums.0 all in omega arith), (λ e. sums.1 (omega arith)))
