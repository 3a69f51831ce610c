-- Where the rolling back begins: each worker at its latest checkpoint within the cut, with nothing looked at.
-- Assumes nothing.
use mathlib.Core.Path.{◌≡◌, sym, ◌∙◌}
use mathlib.Core.Logic.{⊎_elim}
use mathlib.Core.List.{List}
use Prim.Native.Nat.{ℕ, ◌+◌, ◌*◌, ◌<◌, ◌≤◌}
use native.Mathlib.Omega.{arith}
use lib.ListN.{length, set, length-set, get_or-eq_default}
use lib.Seq.{get_or-set_same, get_or-set_other}
use Rattle.ranges.proofs.Order.{lt_or_le, at_or_other}
use Rattle.event_log.specs.Model.{Workers, worker_count, checkpoint_count, checkpoint_of}
use Rattle.accept.specs.WellFormed.{WellFormed}
use Rattle.lent.specs.Lent.{at}
use Rattle.causality.specs.Cut.{IsCut}
use Rattle.cost.specs.Words.{cut_in, start_in, cuts_in}
use Rattle.starts.specs.Inner.Rollback.{number_in, number_below, placed, RollingBack}
use Rattle.choice.proofs.Choosable.{may_recorded}
use Rattle.choice.proofs.Startable.{starts_at}
use Rattle.cost.proofs.Held.{cuts_at}
use Rattle.starts.proofs.Placed.{IsBelow, number_below_lem, placed_length, placed_cut, placed_start, placed_start_other, placed_number, placed_number_other}
use Rattle.starts.proofs.Settling.{below_most}

-- the latest checkpoint of worker w within the cut of the words
abbrev pub latest_of : Workers → List ℕ → ℕ → ℕ
latest_of log words w = number_below log w (cut_in words w + 1) (checkpoint_count log w)

-- the words when the workers below n have begun
pub record Begun (log : Workers) (words₀ words looked : List ℕ) (n : ℕ) : Type 0 where
  pub wide : length words ≡ 3 * worker_count log
  pub long : length looked ≡ worker_count log
  pub cuts : (v : ℕ) → cut_in words v ≡ cut_in words₀ v
  pub number : (v : ℕ) → v < n → number_in words v ≡ latest_of log words₀ v
  pub start : (v : ℕ) → v < n → start_in words v ≡ (checkpoint_of log v (latest_of log words₀ v)).index
  pub looks : (v : ℕ) → v < n → at looked v ≡ cut_in words₀ v

module _ (log : Workers) (words₀ : List ℕ) where
  pub begun_more : (words looked : List ℕ) (w : ℕ) → w < worker_count log → Begun log words₀ words looked w
      → Begun log words₀ (placed log words w (latest_of log words₀ w)) (set looked w (cut_in words₀ w)) (w + 1)
  begun_more words looked w here b =
      let wide : 3 * w + 3 ≤ length words = omega (arith, b.wide) in
      let short : w < length looked = omega (arith, b.long) in
      let c = latest_of log words₀ w in
      record {
        wide = placed_length log words w c ∙ b.wide;
        long = simp length-set b.long;
        cuts = λ v. placed_cut log words w c v ∙ b.cuts v;
        number = at_or_other w (λ v. v < w + 1 → number_in (placed log words w c) v ≡ latest_of log words₀ v)
            (λ h. placed_number log words w c wide)
            (λ v n h. placed_number_other log words w c v n ∙ b.number v (below v n h));
        start = at_or_other w (λ v. v < w + 1 → start_in (placed log words w c) v ≡ (checkpoint_of log v (latest_of log words₀ v)).index)
            (λ h. placed_start log words w c wide)
            (λ v n h. placed_start_other log words w c v n ∙ b.start v (below v n h));
        looks = at_or_other w (λ v. v < w + 1 → at (set looked w (cut_in words₀ w)) v ≡ cut_in words₀ v)
            (λ h. get_or-set_same looked w (cut_in words₀ w) 0 short)
            (λ v n h. get_or-set_other looked w v (cut_in words₀ w) 0 n ∙ b.looks v (below v n h));
      }
    where
      below : (v : ℕ) → (v ≡ w → ⊥) → v < w + 1 → v < w
      below v n h = omega (arith, n)

module _ (log : Workers) (ok : WellFormed log) (words₀ words looked : List ℕ) (is_cut : IsCut log (cuts_in log words₀)) (b : Begun log words₀ words looked (worker_count log)) where
  abbrev cut : List ℕ
  cut = cuts_in log words₀

  latest : (w : ℕ) → IsBelow log w (cut_in words₀ w + 1) (checkpoint_count log w) (latest_of log words₀ w)
  latest w = number_below_lem log w (cut_in words₀ w + 1) (checkpoint_count log w) (omega arith)

  past : (w : ℕ) → worker_count log ≤ w → at looked w ≡ 0
  past w h = get_or-eq_default looked 0 (rw b.long h)

  looked_all : (w : ℕ) → w < worker_count log → at looked w ≡ at cut w
  looked_all w h = b.looks w h ∙ sym (cuts_at log words₀ w h)

  -- when all have begun, what holds of the words while workers are rolled back holds of them
  pub begun_all : RollingBack log cut words looked
  begun_all =
      record {
        wide = b.wide;
        long = b.long;
        cuts = λ w h. b.cuts w ∙ sym (cuts_at log words₀ w h);
        may = λ w h. rw (b.number w h) (latest w).may;
        index = λ w h. rw (b.number w h, b.start w h);
        last = λ w d h l may. rw (b.start w h) (omega (arith, (latest w).index, (latest w).later d (rw (b.number w h) at l) (may_recorded log w d may) may));
        within = λ w h. rw (b.start w h) (omega (arith, (latest w).index, cuts_at log words₀ w h));
        looks = λ w. ⊎_elim (λ l. omega (arith, looked_all w l)) (λ l. omega (arith, past w l)) (lt_or_le w (worker_count log));
        kept = λ w k seen inside unlogged.
            let no : ⊥ =
            ⊎_elim
            (λ l. let m : ⊥ = omega (arith, looked_all w l) in m)
            (λ l. let z : at cut w ≡ 0 = get_or-eq_default cut 0 (rw is_cut.long l) in let m : ⊥ = omega arith in m)
            (lt_or_le w (worker_count log)) in
            absurd no;
        above = λ other is startable w h.
            rw (b.start w h)
            (below_most log ok cut w (cut_in words₀ w + 1) (latest_of log words₀ w) h (latest w) other is
            (omega (arith, starts_at other w, is.within w, cuts_at log words₀ w h)));
      }
