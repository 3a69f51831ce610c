-- What the pass over the checkpoints of a worker keeps: no two of those passed fall into one interval, and `free` is the first interval
-- behind the last one that is not withdrawn. Assumes nothing.
use mathlib.Core.Path.{◌≡◌, refl, sym, ◌∙◌, ap}
use mathlib.Core.Bool.{Bool, true, false, ◌&&◌, false≢true}
use mathlib.Core.Logic.{◌⊎◌, inl, inr, ⊎_elim}
use Prim.Native.Nat.{ℕ, ◌+◌, ◌<◌, ◌≤◌}
use native.Mathlib.Nat.{eq-or-lt_of_le, le_of_suc-le-suc}
use native.Mathlib.Numerals.{add-one}
use native.Mathlib.Omega.{arith}
use borrow.Author.Tests.{eq-eqb, ne_eqb}
use lib.Dec.{eqb}
use Rattle.std.proofs.lemmas.Bool.Decides.{nat_tests}
use Rattle.ranges.proofs.Any.{any_none, any_found, any_every}
use Rattle.ranges.proofs.Sum.{sum_none}
use Rattle.causality.specs.Cut.{receive_at}
use Rattle.event_log.specs.Model.{Workers, checkpoint_count, checkpoint_of}
use Rattle.accept.specs.WellFormed.{WellFormed}
use Rattle.accept.proofs.Accepted.{accepted_layout, well_formed}
use Rattle.intervals.specs.declared.EventIndex.{EventIndex}
use Rattle.intervals.specs.declared.IntervalNumber.{IntervalNumber}
use Rattle.intervals.specs.Interval.{index, interval_at, checkpoint_stays}
use Rattle.pack.proofs.Writing.{start_first, start_next}
use Rattle.interval_refusals.specs.Calls.{checkpoint_interval, fall_together, falls_together}
use Rattle.intervals.proofs.IntervalModel.{interval_grows, interval_few, interval_count, kept_more, kept_same, kept_few, interval_checkpoints, interval_size}

-- after the first k checkpoints of worker w: the last one that is not withdrawn, or the initial state, is after event `from`
pub record Apart (log : Workers) (w k : ℕ) (from : EventIndex) (number free : IntervalNumber) : Type 0 where
  pub low : from.0 ≤ (checkpoint_of log w k).index
  pub counted : number ≡ interval_at log w from
  pub behind : (j : ℕ) → j < k → checkpoint_stays log w j ≡ true → checkpoint_interval log w j < free.0
  pub last : (free.0 ≡ 0) ⊎ ((j : ℕ) × (j < k) × (checkpoint_stays log w j ≡ true) × (checkpoint_interval log w j ≡ number.0) × (free.0 ≡ number.0 + 1))

pub apart_none : (log : Workers) (w : ℕ) → Apart log w 0 (record { 0 = 0 }) (record { 0 = 0 }) (record { 0 = 0 })
apart_none log w =
    record {
      low = omega arith;
      counted = rw (sum_none (receive_at log w));
      behind = λ j l stays. let no : ⊥ = omega arith in absurd no;
      last = inl refl;
    }

module _ {log : Workers} {w k : ℕ} {from : EventIndex} {number free : IntervalNumber} (ok : WellFormed log) (so : Apart log w k from number free) (h : k < checkpoint_count log w) where
  -- the next one is not before the last one
  pub apart_order : from.0 ≤ (checkpoint_of log w (k + 1)).index
  apart_order = let next = ok.ordered w k h in let low = so.low in omega arith

  -- one that is not withdrawn falls together with one before it exactly where its interval is before `free`
  module _ (here : (checkpoint_of log w (k + 1)).withdrawn ≡ false) {next : IntervalNumber} (is : next ≡ interval_at log w (index (checkpoint_of log w (k + 1)).index)) where
    stays : checkpoint_stays log w k ≡ true
    unfolding checkpoint_stays
    stays = rw here

    interval : checkpoint_interval log w k ≡ next.0
    unfolding checkpoint_interval
    interval = sym (ap (λ (n : IntervalNumber). n.0) is)

    pub apart_found : next.0 < free.0 → true ≡ falls_together log w k
    unfolding falls_together fall_together
    apart_found l =
        ⊎_elim
        (λ e. let no : ⊥ = omega arith in absurd no)
        (λ found.
        let grows = interval_grows log w from.0 (checkpoint_of log w (k + 1)).index apart_order in
        let was = ap (λ (n : IntervalNumber). n.0) so.counted in
        let now = ap (λ (n : IntervalNumber). n.0) is in
        let same : checkpoint_interval log w k ≡ checkpoint_interval log w found.0 = omega (arith, interval, found.3, found.4) in
        sym (any_found (fall_together log w k) k found.0 found.1 (simp (stays, found.2) (eq-eqb _ _ same))))
        so.last

    pub apart_alone : free.0 ≤ next.0 → false ≡ falls_together log w k
    unfolding falls_together fall_together
    apart_alone l = sym (any_every (fall_together log w k) k (λ j less. rw stays (alone j less (checkpoint_stays log w j) refl)))
      where
        alone : (j : ℕ) → j < k → (b : Bool) → checkpoint_stays log w j ≡ b → (b && eqb (checkpoint_interval log w k) (checkpoint_interval log w j)) ≡ false
        alone j less true kept = ne_eqb (checkpoint_interval log w k) (checkpoint_interval log w j) (λ e. let below = so.behind j less kept in let no : ⊥ = omega (arith, interval) in no)
        alone j less false kept = refl

    pub apart_next : free.0 ≤ next.0 → Apart log w (k + 1) (index (checkpoint_of log w (k + 1)).index) next (record { 0 = next.0 + 1 })
    apart_next l =
        record {
          low = omega arith;
          counted = is;
          behind = λ j less kept.
              ⊎_elim (λ e. let same : checkpoint_interval log w j ≡ checkpoint_interval log w k = ap (checkpoint_interval log w) e in omega (arith, interval))
              (λ before. omega (arith, so.behind j before kept))
              (eq-or-lt_of_le (le_of_suc-le-suc (rw add-one at less)));
          last = inr (k, omega arith, stays, interval, refl);
        }

  -- a withdrawn one falls together with none
  module _ (gone : (checkpoint_of log w (k + 1)).withdrawn ≡ true) where
    stays_not : checkpoint_stays log w k ≡ false
    unfolding checkpoint_stays
    stays_not = rw gone

    pub gone_alone : false ≡ falls_together log w k
    unfolding falls_together fall_together
    gone_alone = sym (any_every (fall_together log w k) k (λ j l. rw stays_not))

    pub apart_gone : Apart log w (k + 1) from number free
    apart_gone =
        record {
          low = apart_order;
          counted = so.counted;
          behind = λ j l stays.
              ⊎_elim (λ e. absurd (false≢true (sym stays_not ∙ ap (checkpoint_stays log w) (sym e) ∙ stays))) (λ less. so.behind j less stays)
              (eq-or-lt_of_le (le_of_suc-le-suc (rw add-one at l)));
          last = ⊎_elim (λ e. inl e) (λ found. inr (found.0, omega (arith, found.1), found.2, found.3, found.4)) so.last;
        }

-- what the code asks of counts of checkpoints and receives, of the length, of a pass over the checkpoints, and of the refusals
pub ruleset counting_laws = (accepted_layout, sum_none, kept_more, kept_same, kept_few, interval_few, interval_checkpoints, interval_count)

pub ruleset length_laws = (interval_size, start_first, start_next)

pub ruleset apart_laws = (accepted_layout, well_formed, any_none, apart_none, apart_order, apart_next, interval_few)

pub ruleset refusal_laws = (accepted_layout, nat_tests)
