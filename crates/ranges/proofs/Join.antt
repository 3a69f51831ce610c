-- Laws of `join_below`. Assumes nothing.
use mathlib.Core.Path.{◌≡◌, refl, sym}
use mathlib.Core.Logic.{⊎_elim}
use mathlib.Core.List.{List, [], ◌++◌, append-nil, append_assoc}
use Prim.Native.Nat.{ℕ, zero, suc, ◌+◌, ◌<◌}
use native.Mathlib.Nat.{not-suc-le-zero, eq-or-lt_of_le, le_of_suc-le-suc}
use native.Mathlib.Numerals.{add-one}
use native.Mathlib.Omega.{arith}
use lib.ListN.{length, length-append}
use Rattle.ranges.specs.Fold.{join_below, sum_below}

module _ (f : ℕ → List ℕ) where
  pub join_none : join_below f 0 ≡ []
  unfolding join_below
  join_none = refl

  pub join_more : (n : ℕ) → join_below f (n + 1) ≡ join_below f n ++ f n
  unfolding join_below
  join_more n = rw add-one

  -- as long as all of them together
  pub length_join : (long : ℕ → ℕ) (n : ℕ) → ((k : ℕ) → k < n → length (f k) ≡ long k) → length (join_below f n) ≡ sum_below long n
  unfolding join_below sum_below
  length_join long zero all = refl
  length_join long (suc n) all = rw (length-append (join_below f n) (f n), length_join long n (λ k h. all k (omega arith)), all n (omega arith))

  -- list k stands behind those before it
  pub join_at : (n k : ℕ) → k < n → (rest : List ℕ) × (join_below f n ≡ join_below f k ++ f k ++ rest)
  unfolding join_below
  join_at zero k h = absurd (not-suc-le-zero h)
  join_at (suc n) k h =
      ⊎_elim
      (λ q. ([], rw q (sym (append-nil (join_below f n ++ f n)))))
      (λ l. let before = join_at n k l in (before.0 ++ f n, rw before.1 (append_assoc (join_below f k ++ f k) before.0 (f n))))
      (eq-or-lt_of_le (le_of_suc-le-suc h))
