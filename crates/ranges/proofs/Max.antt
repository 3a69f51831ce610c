-- Laws of `max_below`. Assumes nothing.
use mathlib.Core.Path.{◌≡◌, refl, ap}
use mathlib.Core.Logic.{⊎_elim}
use Prim.Native.Nat.{ℕ, zero, suc, ◌+◌, ◌<◌, ◌≤◌, max}
use native.Mathlib.Nat.{not-suc-le-zero, eq-or-lt_of_le, le_of_suc-le-suc}
use native.Mathlib.Numerals.{add-one}
use native.Mathlib.Omega.{arith}
use Rattle.ranges.specs.Fold.{max_below}
use Rattle.ranges.proofs.Order.{lt_or_le}

module _ (f : ℕ → ℕ) where
  pub max_none : max_below f 0 ≡ 0
  unfolding max_below
  max_none = refl

  pub max_more : (n : ℕ) → max_below f (n + 1) ≡ max (max_below f n) (f n)
  unfolding max_below
  max_more n = rw add-one

  -- each is at most the largest
  pub max_each : (n k : ℕ) → k < n → f k ≤ max_below f n
  unfolding max_below
  max_each zero k h = absurd (not-suc-le-zero h)
  max_each (suc n) k h =
      ⊎_elim (λ q. let e : f k ≡ f n = ap f q in omega arith) (λ l. let below = max_each n k l in omega arith) (eq-or-lt_of_le (le_of_suc-le-suc h))

  -- a bound on each bounds the largest
  pub max_least : (n b : ℕ) → ((k : ℕ) → k < n → f k ≤ b) → max_below f n ≤ b
  unfolding max_below
  max_least zero b all = omega arith
  max_least (suc n) b all = let below = max_least n b (λ k h. all k (omega arith)) in let here = all n (omega arith) in omega arith

  -- the largest is one of them, or 0
  pub max_some : (n : ℕ) → 0 < max_below f n → (k : ℕ) × (k < n) × (f k ≡ max_below f n)
  unfolding max_below
  max_some zero h = let no : ⊥ = omega arith in absurd no
  max_some (suc n) h = go (max_some n)
    where
      go : (0 < max_below f n → (k : ℕ) × (k < n) × (f k ≡ max_below f n)) → (k : ℕ) × (k < suc n) × (f k ≡ max (max_below f n) (f n))
      go below =
          ⊎_elim (λ l. let w = below (omega arith) in (w.0, omega arith, omega (arith, w.2))) (λ l. (n, omega arith, omega arith))
          (lt_or_le (f n) (max_below f n))

pub max_same : (f g : ℕ → ℕ) (n : ℕ) → ((k : ℕ) → k < n → f k ≡ g k) → max_below f n ≡ max_below g n
unfolding max_below
max_same f g zero same = refl
max_same f g (suc n) same = rw (max_same f g n (λ k h. same k (omega arith)), same n (omega arith))
