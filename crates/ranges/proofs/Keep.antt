-- Laws of `keep_below`: as many are kept as pass the test, and the place of a kept one is the number that pass before it.
-- Assumes nothing.
use mathlib.Core.Path.{◌≡◌, refl, ◌∙◌, sym, ap}
use mathlib.Core.Bool.{Bool, true, false, cond}
use mathlib.Core.Logic.{⊎_elim}
use mathlib.Core.List.{[], ◌∷◌, ◌++◌}
use Prim.Native.Nat.{ℕ, zero, suc, ◌+◌, ◌<◌, ◌≤◌}
use native.Mathlib.Nat.{not-suc-le-zero, eq-or-lt_of_le, le_of_suc-le-suc}
use native.Mathlib.Omega.{arith}
use lib.ListN.{length, get_or, length-append, get_or-append}
use lib.Seq.{get_or_at}
use Rattle.ranges.specs.Fold.{sum_below, keep_below}
use Rattle.ranges.proofs.Order.{lt_or_le}
use Rattle.ranges.proofs.Sum.{sum_more, sum_grows}

module _ {A : Type 0} (p : ℕ → Bool) (f : ℕ → A) (count : ℕ → ℕ) (counts : (k : ℕ) → count k ≡ cond (p k) 1 0) where
  -- one that passes is counted
  passed_one : (k : ℕ) → p k ≡ true → count k ≡ 1
  passed_one k passes = counts k ∙ rw passes

  pub keep_length : (n : ℕ) → length (keep_below p f n) ≡ sum_below count n
  unfolding keep_below sum_below
  keep_length zero = refl
  keep_length (suc n) = rw (counts n) (go (p n) (keep_length n))
    where
      go : (b : Bool) → length (keep_below p f n) ≡ sum_below count n
          → length (cond b (keep_below p f n ++ (f n ∷ [])) (keep_below p f n)) ≡ sum_below count n + cond b 1 0
      go true e = simp (length-append, e)
      go false e = omega arith

  -- the place of a kept one is the number that pass before it
  pub keep_at : (n k : ℕ) (d : A) → k < n → p k ≡ true → get_or (keep_below p f n) (sum_below count k) d ≡ f k
  unfolding keep_below
  keep_at zero k d h passes = absurd (not-suc-le-zero h)
  keep_at (suc n) k d h passes =
      ⊎_elim
      (λ e.
      let here : p n ≡ true = ap p (sym e) ∙ passes in
      let place : length (keep_below p f n) ≡ sum_below count k = keep_length n ∙ ap (sum_below count) (sym e) in
      rw here (get_or_at (keep_below p f n) (f n) [] d (sum_below count k) place ∙ ap f (sym e)))
      (λ less. go (p n) less (keep_at n k d less passes))
      (eq-or-lt_of_le (le_of_suc-le-suc h))
    where
      go : (b : Bool) → k < n → get_or (keep_below p f n) (sum_below count k) d ≡ f k
          → get_or (cond b (keep_below p f n ++ (f n ∷ [])) (keep_below p f n)) (sum_below count k) d ≡ f k
      go true less before =
          get_or-append (keep_below p f n) (f n ∷ []) d (sum_below count k)
          (omega (arith, keep_length n, sum_more count k, passed_one k passes, sum_grows count (k + 1) n (omega arith))) ∙ before
      go false less before = before

  -- .. and each place has one
  pub keep_from : (n j : ℕ) → j < sum_below count n → (k : ℕ) × (k < n) × (p k ≡ true) × (sum_below count k ≡ j)
  unfolding sum_below
  keep_from zero j h = absurd (not-suc-le-zero h)
  keep_from (suc n) j h = ⊎_elim (λ less. let w = keep_from n j less in (w.0, omega arith, w.2, w.3)) (λ l. go (p n) refl l) (lt_or_le j (sum_below count n))
    where
      go : (b : Bool) → p n ≡ b → sum_below count n ≤ j → (k : ℕ) × (k < suc n) × (p k ≡ true) × (sum_below count k ≡ j)
      go true q l = (n, omega arith, q, omega (arith, passed_one n q))
      go false q l = let none : count n ≡ 0 = counts n ∙ rw q in let no : ⊥ = omega arith in absurd no
