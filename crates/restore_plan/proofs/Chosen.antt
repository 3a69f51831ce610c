-- Starts that are indices of checkpoints are the starts of a choice, and the plan's identifier is that of the last such checkpoint.
-- Assumes nothing.
use mathlib.Core.Path.{◌≡◌, sym, ◌∙◌, ap}
use mathlib.Core.Bool.{true, false}
use mathlib.Core.Logic.{⊎_elim}
use mathlib.Core.List.{List}
use Prim.Native.Nat.{ℕ, ◌+◌, ◌<◌, ◌≤◌}
use native.Mathlib.Omega.{arith}
use borrow.Author.Tests.{eqb-true, eq-eqb}
use lib.Dec.{eqb}
use lib.ListN.{length, get_or, length-map, get_or-eq_default}
use Rattle.ranges.specs.Fold.{tabulate}
use Rattle.ranges.proofs.Order.{lt_or_le}
use Rattle.ranges.proofs.Bools.{and_true_left, and_true_right}
use Rattle.ranges.proofs.First.{last}
use Rattle.ranges.proofs.Tabulate.{length_tabulate, get_d_tabulate, get_d_tabulate_past}
use Rattle.records.specs.declared.Checkpoint.{Checkpoint}
use Rattle.event_log.specs.Model.{Workers, worker_count, checkpoint_count, checkpoint_of}
use Rattle.records.specs.Checkpoint.{initial}
use Rattle.lent.specs.Lent.{at}
use Rattle.causality.specs.Cut.{Within}
use Rattle.choice.specs.Choice.{may_choose, IsChoice, starts_of, Startable}
use Rattle.restore_plan.specs.Plan.{stands_at, identifier_of, identifier_at, plan_at}
use Rattle.choice.proofs.Choosable.{may_below, may_kept}
use Rattle.choice.proofs.Startable.{starts_at, same_starts}

-- x is the index of a checkpoint of worker w that may be chosen
abbrev pub IndexOffered : Workers → ℕ → ℕ → Type 0
IndexOffered log w x = (c : ℕ) × (may_choose log w c ≡ true) × ((checkpoint_of log w c).index ≡ x)

-- starts that are startable and the starts of a choice
pub record AreStarts (log : Workers) (cut starts : List ℕ) : Type 0 where
  pub long : length starts ≡ worker_count log
  pub offered : (w : ℕ) → w < worker_count log → IndexOffered log w (at starts w)
  pub within : Within starts cut
  pub startable : Startable log cut starts

-- p is checkpoint c of worker w, the last one with this index
pub record IsLastAt (log : Workers) (w : ℕ) (p : Checkpoint) (c : ℕ) : Type 0 where
  pub may : may_choose log w c ≡ true
  pub same : checkpoint_of log w c ≡ p
  pub after : (d : ℕ) → may_choose log w d ≡ true → (checkpoint_of log w d).index ≡ p.index → d ≤ c

-- the starts of a startable choice
pub choice_starts : (log : Workers) (cut : List ℕ) (choice : List Checkpoint) → IsChoice log cut choice → Startable log cut (starts_of choice) → AreStarts log cut (starts_of choice)
choice_starts log cut choice is startable =
    record {
      long = length-map choice (λ (p : Checkpoint). p.index) ∙ is.long;
      offered = λ w h. let o = is.offered w h in (o.0, o.1, ap (λ (p : Checkpoint). p.index) o.2 ∙ sym (starts_at choice w));
      within = λ w. rw (starts_at choice w) (is.within w);
      startable = startable;
    }

-- the identifier is that of the last checkpoint with that index that may be chosen
pub identifier_last : (log : Workers) (w x : ℕ) → IndexOffered log w x → (c : ℕ) × IsLastAt log w (record { index = x; identifier = identifier_at log w x; withdrawn = false }) c
unfolding identifier_at identifier_of stands_at
identifier_last log w x (k, may, index) =
    let stands : (c : ℕ) → may_choose log w c ≡ true → (checkpoint_of log w c).index ≡ x → stands_at log w x c ≡ true =
    λ c m i. rw (m, eq-eqb (checkpoint_of log w c).index x i) in
    let found = last (stands_at log w x) (identifier_of log w) (checkpoint_count log w + 1) k (may_below log w k may) (stands k may index) in
    let c = found.0 in
    let first = may_choose log w c in
    let second = eqb (checkpoint_of log w c).index x in
    let m = and_true_left first second found.1.holds in
    let i = eqb-true (checkpoint_of log w c).index x (and_true_right first second found.1.holds) in (
      c,
      record {
        may = m;
        same = λ j. record { index = i j; identifier = sym found.2 j; withdrawn = may_kept log w c m j };
        after = λ d m e. found.1.after d (may_below log w d m) (stands d m e);
      },
    )

-- the checkpoint of the plan is the last one with its index that may be chosen
pub plan_last : (log : Workers) (starts : List ℕ) (w : ℕ) → IndexOffered log w (at starts w) → (c : ℕ) × IsLastAt log w (plan_at log starts w) c
unfolding plan_at
plan_last log starts w = identifier_last log w (at starts w)

-- the choice that has these starts
unfoldable pub chosen : Workers → List ℕ → List Checkpoint
chosen log starts = tabulate (plan_at log starts) (worker_count log)

module _ (log : Workers) (starts : List ℕ) where
  -- it gives a worker the checkpoint that the plan names
  pub chosen_at : (w : ℕ) → w < worker_count log → get_or (chosen log starts) w initial ≡ plan_at log starts w
  unfolding chosen
  chosen_at w h = get_d_tabulate (plan_at log starts) (worker_count log) w initial h

  chosen_index : length starts ≡ worker_count log → (w : ℕ) → (get_or (chosen log starts) w initial).index ≡ at starts w
  unfolding chosen plan_at
  chosen_index long w =
      ⊎_elim
      (λ l. ap (λ (p : Checkpoint). p.index) (chosen_at w l))
      (λ l. ap (λ (p : Checkpoint). p.index) (get_d_tabulate_past (plan_at log starts) (worker_count log) w initial l) ∙ sym (get_or-eq_default starts 0 (rw long l)))
      (lt_or_le w (worker_count log))

  chosen_long : length (chosen log starts) ≡ worker_count log
  unfolding chosen
  chosen_long = length_tabulate (plan_at log starts) (worker_count log)

  -- its starts are these
  pub chosen_starts : length starts ≡ worker_count log → starts_of (chosen log starts) ≡ starts
  chosen_starts long =
      let same : (w : ℕ) → at (starts_of (chosen log starts)) w ≡ at starts w = λ w. starts_at (chosen log starts) w ∙ chosen_index long w in
      same_starts (starts_of (chosen log starts)) starts (length-map (chosen log starts) (λ (p : Checkpoint). p.index) ∙ chosen_long ∙ sym long)
      (λ w. omega (arith, same w)) (λ w. omega (arith, same w))

  -- it is a choice
  pub chosen_choice : (cut : List ℕ) → AreStarts log cut starts → IsChoice log cut (chosen log starts)
  chosen_choice cut are =
      record {
        long = chosen_long;
        offered = λ w h. let l = plan_last log starts w (are.offered w h) in (l.0, l.1.may, l.1.same ∙ sym (chosen_at w h));
        within = λ w. rw (chosen_index are.long w) (are.within w);
      }

  -- and startable
  pub chosen_startable : (cut : List ℕ) → AreStarts log cut starts → Startable log cut (starts_of (chosen log starts))
  chosen_startable cut are = rw (chosen_starts are.long) are.startable
