-- Starts work exactly when they are startable; so a choice that works starts no later than the latest startable one.
-- Assumes nothing.
use mathlib.Core.Path.{◌≡◌, ◌∙◌, ap}
use mathlib.Core.Bool.{true}
use mathlib.Core.Logic.{⊎_elim, ◌↔◌}
use mathlib.Core.List.{List, [], ◌∷◌}
use Prim.Native.Nat.{ℕ, zero, suc, ◌+◌, ◌<◌, ◌≤◌}
use native.Mathlib.Omega.{arith}
use lib.ListN.{length, length-map}
use Rattle.ranges.specs.Fold.{sum_below}
use Rattle.ranges.proofs.Order.{lt_or_le, eq_or_ne}
use Rattle.ranges.proofs.Sum.{sum_le}
use Rattle.records.specs.declared.Checkpoint.{Checkpoint}
use Rattle.event_log.specs.Model.{Workers, worker_count, event_of}
use Rattle.records.specs.Event.{is_unlogged}
use Rattle.event_log.proofs.Read.{worker_within}
use Rattle.accept.specs.WellFormed.{WellFormed}
use Rattle.lent.specs.Lent.{at}
use Rattle.causality.specs.Cut.{Consistent, Within}
use Rattle.choice.specs.Choice.{IsChoice, starts_of, Startable}
use Rattle.replay_machine.specs.Machine.{answer_of, moved, positions_after, AtCut, Works}
use Rattle.replay_machine.proofs.Steps.{Between, starts_between, done_ready, refused, done_raises, moved_long, moved_between}
use Rattle.replay_machine.proofs.Count.{done_counts, moved_sum, at_cut_sum}
use Rattle.replay_machine.proofs.Progress.{progress}

module _ (log : Workers) (cut starts : List ℕ) where
  -- event k + 1 of w was done by a step of the list: if it is a kind 2 receive, its send is above the sender's start
  pub passed : (positions workers : List ℕ) → length positions ≡ worker_count log
      → (w k : ℕ) → at positions w ≤ k → k < at (positions_after log cut starts positions workers) w → is_unlogged (event_of log w (k + 1)) ≡ true
      → at starts (event_of log w (k + 1)).peer < (event_of log w (k + 1)).send
  unfolding positions_after
  passed positions [] long w k low high unlogged = let no : ⊥ = omega arith in absurd no
  passed positions (v ∷ workers) long w k low high unlogged =
      ⊎_elim here (λ l. passed (moved log cut starts positions v) workers (moved_long log cut starts positions v ∙ long) w k l high unlogged)
      (lt_or_le k (at (moved log cut starts positions v) w))
    where
      here : k < at (moved log cut starts positions v) w → at starts (event_of log w (k + 1)).peer < (event_of log w (k + 1)).send
      here l =
          ⊎_elim
          (λ e.
          let raised = done_raises log cut starts positions v (omega arith) e in
          ⊎_elim
          (λ q.
          let before = ap (at positions) q in
          let later = ap (at (moved log cut starts positions v)) q in
          let here = raised.here in
          let now : at positions w ≡ k = omega arith in
          let ready = (done_ready log cut starts positions w).0 (rw q e) in
          ((rw now at ready.sent) unlogged).0)
          (λ other. let same = raised.others w other in let no : ⊥ = omega arith in absurd no)
          (eq_or_ne w v))
          (λ other. let same = ap (λ (p : List ℕ). at p w) (refused log cut starts positions v other) in let no : ⊥ = omega arith in absurd no)
          (eq_or_ne (answer_of log cut starts positions v) 0)

  -- where some list brings every position to its cut, the starts are startable
  pub works_startable : Consistent log cut → length starts ≡ worker_count log → Works log cut starts → Startable log cut starts
  works_startable consistent long works w k low high unlogged =
      let within = worker_within log w k (let l = consistent.is_cut.within w in omega arith) in
      let end = works.1 w within in
      passed starts works.0 long w k low (omega arith) unlogged

module _ (log : Workers) (formed : WellFormed log) (cut : List ℕ) (consistent : Consistent log cut) (starts : List ℕ) where
  -- from startable starts, where at most `left` events are left, some list brings every position to its cut
  pub finish : Startable log cut starts → (left : ℕ) (positions : List ℕ) → Between log cut starts positions
      → sum_below (at cut) (worker_count log) ≤ sum_below (at positions) (worker_count log) + left
      → (workers : List ℕ) × AtCut log cut (positions_after log cut starts positions workers)
  unfolding positions_after
  finish startable zero positions between enough =
      let most = sum_le (at positions) (at cut) (worker_count log) (λ w h. between.high w) in
      ([], (at_cut_sum log cut positions between.high).1 (omega arith))
  finish startable (suc left) positions between enough =
      ⊎_elim
      (λ all. ([], all))
      (λ some.
      let w = some.0 in
      let sum = moved_sum log cut starts positions w between.long in
      let one = done_counts (answer_of log cut starts positions w) some.2 in
      let rest = finish startable left (moved log cut starts positions w) (moved_between log cut starts positions w between) (omega arith) in
      (w ∷ rest.0, rest.1))
      (progress log formed cut consistent starts startable positions between)

  -- starts within the cut work exactly when they are startable
  pub works_exactly : length starts ≡ worker_count log → Within starts cut → Works log cut starts ↔ Startable log cut starts
  works_exactly long within = (
    works_startable log cut starts consistent long,
    (λ startable. finish startable (sum_below (at cut) (worker_count log)) starts (starts_between log cut starts long within) (omega arith)),
  )

-- a choice that works starts no later than starts that no startable choice starts later than
pub works_within : (log : Workers) (cut : List ℕ) → Consistent log cut → (p : List ℕ)
    → ((other : List Checkpoint) → IsChoice log cut other → Startable log cut (starts_of other) → Within (starts_of other) p)
    → (other : List Checkpoint) → IsChoice log cut other → Works log cut (starts_of other) → Within (starts_of other) p
works_within log cut consistent p latest other choice works =
    latest other choice (works_startable log cut (starts_of other) consistent (length-map other (λ (c : Checkpoint). c.index) ∙ choice.long) works)
