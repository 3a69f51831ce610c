-- The identifiers that plan words show are those of the last checkpoints listed with their index and not withdrawn, else 0.
-- Assumes nothing.
use mathlib.Core.Path.{◌≡◌, refl, sym, ◌∙◌, ap}
use mathlib.Core.Bool.{Bool, true, false, ◌&&◌}
use mathlib.Core.Logic.{◌⊎◌, inl, inr, ⊎_elim}
use mathlib.Core.List.{List, ◌++◌}
use Prim.Native.Nat.{ℕ, zero, suc, ◌+◌, ◌*◌, ◌≤◌}
use native.Mathlib.Omega.{arith}
use borrow.Author.Tests.{leb-true, eqb-true, eq-eqb}
use lib.Dec.{eqb, leb}
use lib.ListN.{take, drop}
use lib.Seq.{take_at}
use Rattle.ranges.specs.Fold.{any_below, last_below}
use Rattle.ranges.proofs.Any.{any_each, any_some}
use Rattle.ranges.proofs.Bools.{and_true_left, and_true_right, never_true}
use Rattle.ranges.proofs.First.{last, last_zero}
use Rattle.lent.specs.Lent.{at}
use Rattle.records.specs.Forms.{marks_withdrawn}
use Rattle.records.specs.Mark.{top_bit, has_mark}
use Rattle.records.specs.declared.Checkpoint.{Checkpoint}
use Rattle.event_log.specs.Model.{Workers, worker_count, checkpoint_count, checkpoint_of}
use Rattle.event_log.specs.Layout.{form_field, workers_of, log_of}
use Rattle.event_log.proofs.Read.{checkpoint_initial, identifier_below}
use Rattle.choice.specs.Choice.{may_choose}
use Rattle.choice.proofs.Choosable.{may_recorded, may_kept, may_listed}
use Rattle.restore_plan.specs.Plan.{stands_at, identifier_of, identifier_at, plan_starts, plan_words}
use Rattle.restore_plan.specs.Shown.{IsListed, Shown}
use Rattle.restore_plan.proofs.Written.{plan_long, plan_start, plan_shown}

initial_identifier : (log : Workers) (w : ℕ) → (checkpoint_of log w 0).identifier ≡ 0
initial_identifier log w = ap (λ (p : Checkpoint). p.identifier) (checkpoint_initial log w)

module _ (log : Workers) (w x : ℕ) where
  -- a checkpoint that is listed with the index stands there, and one that stands there is listed or the initial state
  listed_stands : (c : ℕ) → IsListed log w x c → stands_at log w x c ≡ true
  unfolding stands_at
  listed_stands c l = rw (may_listed log w c l.recorded.1 l.kept, eq-eqb (checkpoint_of log w c).index x l.index)

  stands_listed : (c : ℕ) → stands_at log w x c ≡ true → (c ≡ 0) ⊎ IsListed log w x c
  unfolding stands_at
  stands_listed zero e = inl refl
  stands_listed (suc k) e =
      let may = and_true_left (may_choose log w (suc k)) (eqb (checkpoint_of log w (suc k)).index x) e in
      inr (record {
        recorded = (omega arith, may_recorded log w (suc k) may);
        index = eqb-true (checkpoint_of log w (suc k)).index x (and_true_right (may_choose log w (suc k)) (eqb (checkpoint_of log w (suc k)).index x) e);
        kept = may_kept log w (suc k) may;
      })

  -- the last one listed gives the identifier
  identifier_listed : (c : ℕ) → IsListed log w x c → ((d : ℕ) → IsListed log w x d → d ≤ c) → identifier_at log w x ≡ (checkpoint_of log w c).identifier
  unfolding identifier_at identifier_of
  identifier_listed c l later =
      let found = last (stands_at log w x) (identifier_of log w) (checkpoint_count log w + 1) c (omega (arith, l.recorded.1)) (listed_stands c l) in
      let j = found.0 in
      let above = found.1.after c (omega (arith, l.recorded.1)) (listed_stands c l) in
      let below : j ≤ c = ⊎_elim (λ (z : j ≡ 0). omega (arith, z)) (λ m. later j m) (stands_listed j found.1.holds) in
      let same : j ≡ c = omega arith in
      found.2 ∙ ap (λ k. (checkpoint_of log w k).identifier) same

  -- the identifier is that of one listed or of the initial state
  identifier_some : (c : ℕ) × (identifier_at log w x ≡ (checkpoint_of log w c).identifier) × ((c ≡ 0) ⊎ IsListed log w x c)
  unfolding identifier_at identifier_of
  identifier_some = go (any_below (stands_at log w x) (checkpoint_count log w + 1)) refl
    where
      go : (b : Bool) → any_below (stands_at log w x) (checkpoint_count log w + 1) ≡ b
          → (c : ℕ) × (last_below (stands_at log w x) (identifier_of log w) (checkpoint_count log w + 1) ≡ (checkpoint_of log w c).identifier) × ((c ≡ 0) ⊎ IsListed log w x c)
      go false e =
          let zero = last_zero (stands_at log w x) (identifier_of log w) (checkpoint_count log w + 1) (any_each (stands_at log w x) (checkpoint_count log w + 1) e) in
          (0, zero ∙ sym (initial_identifier log w), inl refl)
      go true e =
          let (k, h, stands) = any_some (stands_at log w x) (checkpoint_count log w + 1) e in
          let found = last (stands_at log w x) (identifier_of log w) (checkpoint_count log w + 1) k h stands in
          (found.0, found.2, stands_listed found.0 found.1.holds)

  -- where none is listed it is 0
  identifier_none : ((c : ℕ) → IsListed log w x c → ⊥) → identifier_at log w x ≡ 0
  identifier_none none =
      let (c, is, which) = identifier_some in
      ⊎_elim (λ (z : c ≡ 0). is ∙ ap (λ k. (checkpoint_of log w k).identifier) z ∙ initial_identifier log w) (λ l. absurd (none c l)) which

module _ (s : List ℕ) where
  -- it has no mark
  identifier_unmarked : (w x : ℕ) → has_mark (form_field s) (identifier_at (workers_of s) w x) ≡ false
  unfolding has_mark
  identifier_unmarked w x =
      let (c, is, which) = identifier_some (workers_of s) w x in
      let marks = marks_withdrawn (form_field s) in
      let top = leb top_bit (identifier_at (workers_of s) w x) in
      never_true (marks && top)
      (λ e.
      let high = leb-true top_bit (identifier_at (workers_of s) w x) (and_true_right marks top e) in
      let low = identifier_below s (and_true_left marks top e) w c in
      let no : ⊥ = omega arith in no)

  -- the third words of a plan
  pub shown : (cut : List ℕ) → Shown (log_of s) (plan_words (workers_of s) cut)
  shown cut =
      let log = workers_of s in
      record {
        unmarked = λ w h. rw (plan_shown log cut w h) (identifier_unmarked w (at (plan_starts log cut) w));
        last = λ w c h. rw (plan_shown log cut w h, plan_start log cut w h) (identifier_listed log w (at (plan_starts log cut) w) c);
        none = λ w h. rw (plan_shown log cut w h, plan_start log cut w h) (identifier_none log w (at (plan_starts log cut) w));
      }

  -- .. and of the words that a call leaves in front of the others
  pub shown_left : (n : ℕ) (cut found lent : List ℕ) → found ≡ plan_words (workers_of s) cut → Shown (log_of s) (take (3 * worker_count (workers_of s)) (found ++ drop n lent))
  shown_left n cut found lent is =
      rw (is, take_at (plan_words (workers_of s) cut) (drop n lent) (3 * worker_count (workers_of s)) (plan_long (workers_of s) cut)) (shown cut)
