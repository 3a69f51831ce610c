-- Laws of `first_of`: the first number of a list of tests that is not 0. Assumes nothing.
use mathlib.Core.Path.{◌≡◌, refl, sym, ◌∙◌, ap}
use mathlib.Core.Logic.{⊎_elim, ◌≢◌}
use Prim.Native.Nat.{ℕ, zero, suc, ◌+◌, ◌<◌}
use native.Mathlib.Nat.{not-suc-le-zero, eq-or-lt_of_le, le_of_suc-le-suc}
use native.Mathlib.Numerals.{add-one}
use native.Mathlib.Omega.{arith}
use Rattle.lent.specs.Lent.{or_else, first_of}
use Rattle.lent.proofs.Lent.{or_else_zero, or_else_first, or_else_second}

module _ (f : ℕ → ℕ) where
  pub first_of_none : first_of f 0 ≡ 0
  unfolding first_of
  first_of_none = refl

  -- one more that gives 0
  pub first_of_more : (n : ℕ) → first_of f n ≡ 0 → f n ≡ 0 → first_of f (n + 1) ≡ 0
  unfolding first_of
  first_of_more n before here = rw add-one (or_else_second (first_of f n) (f n) before ∙ here)

  -- the first that does not decides, whatever follows
  pub first_of_found : (k n : ℕ) → k < n → first_of f k ≡ 0 → f k ≢ 0 → first_of f n ≡ f k
  unfolding first_of
  first_of_found k zero h before here = absurd (not-suc-le-zero h)
  first_of_found k (suc n) h before here =
      ⊎_elim
      (λ q. ap (λ (m : ℕ). or_else (first_of f m) (f m)) (sym q) ∙ or_else_second (first_of f k) (f k) before)
      (λ l. let found = first_of_found k n l before here in or_else_first (first_of f n) (f n) (λ e. here (sym found ∙ e)) ∙ found)
      (eq-or-lt_of_le (le_of_suc-le-suc h))

  -- where each is 0 there is none ..
  pub first_of_all : (n : ℕ) → ((k : ℕ) → k < n → f k ≡ 0) → first_of f n ≡ 0
  unfolding first_of
  first_of_all zero all = refl
  first_of_all (suc n) all = or_else_second (first_of f n) (f n) (first_of_all n (λ k h. all k (omega arith))) ∙ all n (omega arith)

  -- .. and where there is none each is 0
  pub first_of_zero : (n : ℕ) → first_of f n ≡ 0 → (k : ℕ) → k < n → f k ≡ 0
  unfolding first_of
  first_of_zero zero none k h = absurd (not-suc-le-zero h)
  first_of_zero (suc n) none k h =
      let both = or_else_zero (first_of f n) (f n) none in
      ⊎_elim (λ q. ap f q ∙ both.1) (λ l. first_of_zero n both.0 k l) (eq-or-lt_of_le (le_of_suc-le-suc h))
