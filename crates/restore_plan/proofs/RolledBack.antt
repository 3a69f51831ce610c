-- One round of rolling back: no start is later after it, it keeps above every startable choice, and starts that it leaves as they are, are
-- startable.
-- Assumes nothing.
use mathlib.Core.Path.{◌≡◌, refl, sym, ◌∙◌, ap}
use mathlib.Core.Bool.{Bool, true, false, not, cond, ◌&&◌}
use mathlib.Core.Logic.{◌⊎◌, inl, inr, ⊎_elim}
use mathlib.Core.List.{List}
use Prim.Native.Nat.{ℕ, ◌+◌, ◌<◌, ◌≤◌}
use native.Mathlib.Omega.{arith}
use borrow.Author.Tests.{le-leb, leb-true, eqb-true, eq-eqb, not-true}
use lib.Dec.{leb, eqb}
use lib.ListN.{length, get_or-eq_default}
use Rattle.ranges.proofs.Order.{lt_or_le}
use Rattle.ranges.proofs.Any.{any_each, any_every}
use Rattle.ranges.proofs.Bools.{and_true_left, and_true_right, never_true}
use Rattle.ranges.proofs.Max.{max_each, max_least, max_some}
use Rattle.ranges.proofs.Tabulate.{length_tabulate, get_d_tabulate, get_d_tabulate_past}
use Rattle.event_log.specs.Model.{Workers, worker_count, event_of, checkpoint_count, checkpoint_of}
use Rattle.records.specs.Event.{is_unlogged}
use Rattle.event_log.proofs.Read.{worker_within, checkpoint_initial}
use Rattle.accept.specs.WellFormed.{WellFormed}
use Rattle.lent.specs.Lent.{at}
use Rattle.causality.specs.Cut.{Within, IsCut}
use Rattle.choice.specs.Choice.{may_choose, loses_send}
use Rattle.restore_plan.specs.Plan.{loses, worker_loses, some_loses, usable, index_if, rolled_back_at, rolled_back}
use Rattle.choice.proofs.Choosable.{may_below, may_initial}
use Rattle.choice.proofs.Startable.{unlogged_receive, lost_send, keeps_send}
use Rattle.restore_plan.proofs.Chosen.{AreStarts}

-- worker v, started at index x, can send again what every worker needs
abbrev Keeps : Workers → List ℕ → List ℕ → ℕ → ℕ → Type 0
Keeps log cut starts v x =
    (w k : ℕ) → at starts w ≤ k → k < at cut w → is_unlogged (event_of log w (k + 1)) ≡ true → (event_of log w (k + 1)).peer ≡ v → x < (event_of log w (k + 1)).send

-- checkpoint c is one that a round may roll worker v back to
record Usable (log : Workers) (cut starts : List ℕ) (v c : ℕ) : Type 0 where
  may : may_choose log v c ≡ true
  below : (checkpoint_of log v c).index ≤ at starts v
  keeps : Keeps log cut starts v (checkpoint_of log v c).index

module _ (log : Workers) (cut : List ℕ) (is_cut : IsCut log cut) (starts : List ℕ) where
  lost_false : (v x : ℕ) → some_loses log cut starts v x ≡ false → Keeps log cut starts v x
  unfolding some_loses worker_loses loses
  lost_false v x none w k after inside unlogged peer =
      let here = worker_within log w k (omega (arith, is_cut.within w)) in
      let event = any_each (loses log starts v x w) (at cut w) (any_each (worker_loses log cut starts v x) (worker_count log) none w here) k inside in
      keeps_send (event_of log w (k + 1)) x (rw (le-leb (at starts w) k after, eq-eqb (event_of log w (k + 1)).peer v peer) at event) unlogged

  loses_false : (v x : ℕ) → Keeps log cut starts v x → (w k : ℕ) → k < at cut w → loses log starts v x w k ≡ false
  unfolding loses
  loses_false v x keeps w k inside =
      let e = event_of log w (k + 1) in
      let after = leb (at starts w) k in
      let peer = eqb e.peer v in
      never_true (after && peer && loses_send e x)
      (λ q.
      let two = and_true_left (after && peer) (loses_send e x) q in
      let lost = lost_send e x (and_true_right (after && peer) (loses_send e x) q) in
      let more = keeps w k (leb-true (at starts w) k (and_true_left after peer two)) inside lost.unlogged (eqb-true e.peer v (and_true_right after peer two)) in
      let no : ⊥ = omega (arith, lost.low) in no)

  lost_none : (v x : ℕ) → Keeps log cut starts v x → some_loses log cut starts v x ≡ false
  unfolding some_loses worker_loses
  lost_none v x keeps =
      any_every (worker_loses log cut starts v x) (worker_count log) (λ w h. any_every (loses log starts v x w) (at cut w) (loses_false v x keeps w))

  usable_of : (v c : ℕ) → Usable log cut starts v c → usable log cut starts v c ≡ true
  unfolding usable
  usable_of v c u = rw (u.may, le-leb (checkpoint_of log v c).index (at starts v) u.below, lost_none v (checkpoint_of log v c).index u.keeps)

  of_usable : (v c : ℕ) → usable log cut starts v c ≡ true → Usable log cut starts v c
  unfolding usable
  of_usable v c q =
      let x = (checkpoint_of log v c).index in
      let may = may_choose log v c in
      let below = leb x (at starts v) in
      let keeps = not (some_loses log cut starts v x) in
      let two = and_true_left (may && below) keeps q in
      record {
        may = and_true_left may below two;
        below = leb-true x (at starts v) (and_true_right may below two);
        keeps = lost_false v x (not-true (some_loses log cut starts v x) (and_true_right (may && below) keeps q));
      }

  -- a checkpoint that may be used is no later than where the worker is rolled back to
  usable_below : (v c : ℕ) → Usable log cut starts v c → (checkpoint_of log v c).index ≤ rolled_back_at log cut starts v
  unfolding rolled_back_at index_if
  usable_below v c u =
      let found = max_each (index_if log cut starts v) (checkpoint_count log v + 1) c (may_below log v c u.may) in
      rw (usable_of v c u) at found

  index_usable : (v c : ℕ) → (index_if log cut starts v c ≡ 0) ⊎ (Usable log cut starts v c × ((checkpoint_of log v c).index ≡ index_if log cut starts v c))
  unfolding index_if
  index_usable v c = go (usable log cut starts v c) refl
    where
      go : (b : Bool) → usable log cut starts v c ≡ b
          → (cond b (checkpoint_of log v c).index 0 ≡ 0) ⊎ (Usable log cut starts v c × ((checkpoint_of log v c).index ≡ cond b (checkpoint_of log v c).index 0))
      go true q = inr (of_usable v c q, refl)
      go false q = inl refl

  rolled_back_below : (v : ℕ) → rolled_back_at log cut starts v ≤ at starts v
  unfolding rolled_back_at
  rolled_back_below v =
      max_least (index_if log cut starts v) (checkpoint_count log v + 1) (at starts v)
      (λ c h. ⊎_elim (λ z. omega (arith, z)) (λ u. omega (arith, u.1, u.0.below)) (index_usable v c))

  -- a round rolls a worker back to the index of a checkpoint that may be used
  rolled_back_usable : WellFormed log → (v : ℕ) → (c : ℕ) × Usable log cut starts v c × ((checkpoint_of log v c).index ≡ rolled_back_at log cut starts v)
  unfolding rolled_back_at
  rolled_back_usable ok v = ⊎_elim some none (lt_or_le 0 (rolled_back_at log cut starts v))
    where
      some : 0 < rolled_back_at log cut starts v → (c : ℕ) × Usable log cut starts v c × ((checkpoint_of log v c).index ≡ rolled_back_at log cut starts v)
      some h =
          let found = max_some (index_if log cut starts v) (checkpoint_count log v + 1) h in
          ⊎_elim (λ z. let no : ⊥ = omega (arith, z, found.2) in absurd no) (λ u. (found.0, u.0, u.1 ∙ found.2)) (index_usable v found.0)

      none : rolled_back_at log cut starts v ≤ 0 → (c : ℕ) × Usable log cut starts v c × ((checkpoint_of log v c).index ≡ rolled_back_at log cut starts v)
      none h = (
        0,
        record {
          may = may_initial log v;
          below = rw (checkpoint_initial log v) (omega arith);
          keeps = λ w k after inside unlogged peer. rw (checkpoint_initial log v) (ok.sent w (k + 1) (unlogged_receive _ unlogged)).positive;
        },
        rw (checkpoint_initial log v) (omega arith),
      )

  -- a round gives one start for each worker
  pub length_rolled_back : length (rolled_back log cut starts) ≡ worker_count log
  unfolding rolled_back
  length_rolled_back = length_tabulate (rolled_back_at log cut starts) (worker_count log)

  at_rolled_back : (v : ℕ) → v < worker_count log → at (rolled_back log cut starts) v ≡ rolled_back_at log cut starts v
  unfolding rolled_back
  at_rolled_back v h = get_d_tabulate (rolled_back_at log cut starts) (worker_count log) v 0 h

  at_rolled_back_past : (v : ℕ) → worker_count log ≤ v → at (rolled_back log cut starts) v ≡ 0
  unfolding rolled_back
  at_rolled_back_past v h = get_d_tabulate_past (rolled_back_at log cut starts) (worker_count log) v 0 h

  -- a round makes no start later
  pub rolled_back_within : Within (rolled_back log cut starts) starts
  rolled_back_within v =
      ⊎_elim (λ l. let e = at_rolled_back v l in let b = rolled_back_below v in omega arith) (λ l. let e = at_rolled_back_past v l in omega arith) (lt_or_le v (worker_count log))

  -- what is startable and below the starts is below them after the round
  pub rolled_back_above : (other : List ℕ) → AreStarts log cut other → Within other starts → Within other (rolled_back log cut starts)
  rolled_back_above other are below v =
      ⊎_elim
      (λ l.
      let o = are.offered v l in
      let keeps : Keeps log cut starts v (checkpoint_of log v o.0).index =
      λ w k after inside unlogged peer.
      let more = are.startable w k (omega (arith, below w)) inside unlogged in
      let same : at other (event_of log w (k + 1)).peer ≡ at other v = ap (at other) peer in
      omega (arith, o.2) in
      let b = usable_below v o.0 (record { may = o.1; below = omega (arith, o.2, below v); keeps = keeps }) in
      omega (arith, o.2, at_rolled_back v l))
      (λ l. let z : at other v ≡ 0 = get_or-eq_default other 0 (rw are.long l) in omega arith)
      (lt_or_le v (worker_count log))

  -- where a round moves nothing, the starts are startable and indices of checkpoints
  pub rolled_back_fixed : WellFormed log → Within starts cut → rolled_back log cut starts ≡ starts → AreStarts log cut starts
  rolled_back_fixed ok within fixed =
      record {
        long = ap length (sym fixed) ∙ length_rolled_back;
        offered = λ w h. let u = found w h in (u.0, u.1.may, u.2);
        within = within;
        startable = λ w k after inside unlogged.
            let s = ok.sent w (k + 1) (unlogged_receive _ unlogged) in
            let u = found (event_of log w (k + 1)).peer s.within in
            let more = u.1.keeps w k after inside unlogged refl in
            omega (arith, u.2);
      }
    where
      found : (v : ℕ) → v < worker_count log → (c : ℕ) × Usable log cut starts v c × ((checkpoint_of log v c).index ≡ at starts v)
      found v h = let u = rolled_back_usable ok v in (u.0, u.1, u.2 ∙ sym (at_rolled_back v h) ∙ ap (λ (l : List ℕ). at l v) fixed)
