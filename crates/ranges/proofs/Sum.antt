-- Laws of `sum_below`. Assumes nothing.
use mathlib.Core.Path.{◌≡◌, refl, sym, ap}
use mathlib.Core.Logic.{⊎_elim, ◌≢◌}
use Prim.Native.Nat.{ℕ, zero, suc, ◌+◌, ◌*◌, ◌<◌, ◌≤◌}
use native.Mathlib.Nat.{not-suc-le-zero, eq-or-lt_of_le, le_of_suc-le-suc, suc-mul, mul-zero, mul-suc}
use native.Mathlib.Numerals.{add-one, unary_clauses}
use native.Mathlib.Omega.{arith}
use Rattle.ranges.specs.Fold.{sum_below}
use Rattle.ranges.proofs.Order.{lt_or_le}

module _ (f : ℕ → ℕ) where
  pub sum_none : sum_below f 0 ≡ 0
  unfolding sum_below
  sum_none = refl

  pub sum_more : (n : ℕ) → sum_below f (n + 1) ≡ sum_below f n + f n
  unfolding sum_below
  sum_more n = rw add-one

  -- each is at most the sum
  pub sum_each : (n k : ℕ) → k < n → f k ≤ sum_below f n
  unfolding sum_below
  sum_each zero k h = absurd (not-suc-le-zero h)
  sum_each (suc n) k h =
      ⊎_elim (λ q. let e : f k ≡ f n = ap f q in omega arith) (λ l. let below = sum_each n k l in omega arith) (eq-or-lt_of_le (le_of_suc-le-suc h))

  -- a bound on each bounds the sum
  pub sum_bound : (n b : ℕ) → ((k : ℕ) → k < n → f k ≤ b) → sum_below f n ≤ n * b
  unfolding sum_below
  sum_bound zero b all = omega arith
  sum_bound (suc n) b all =
      let below = sum_bound n b (λ k h. all k (omega arith)) in let here = all n (omega arith) in let e = suc-mul n b in omega arith

  pub sum_grows : (m n : ℕ) → m ≤ n → sum_below f m ≤ sum_below f n
  unfolding sum_below
  sum_grows m zero h = let e : m ≡ 0 = omega arith in rw e (omega arith)
  sum_grows m (suc n) h =
      ⊎_elim (λ q. rw q (omega arith)) (λ l. let below = sum_grows m n (le_of_suc-le-suc l) in omega arith) (eq-or-lt_of_le h)

module _ (f g : ℕ → ℕ) where
  pub sum_same : (n : ℕ) → ((k : ℕ) → k < n → f k ≡ g k) → sum_below f n ≡ sum_below g n
  unfolding sum_below
  sum_same zero same = refl
  sum_same (suc n) same = rw (sum_same n (λ k h. same k (omega arith)), same n (omega arith))

  -- one by one at most: the sum at most
  pub sum_le : (n : ℕ) → ((k : ℕ) → k < n → f k ≤ g k) → sum_below f n ≤ sum_below g n
  unfolding sum_below
  sum_le zero all = omega arith
  sum_le (suc n) all = let below = sum_le n (λ k h. all k (omega arith)) in let here = all n (omega arith) in omega arith

  -- .. and less at one place: the sum is less
  pub sum_lt : (n : ℕ) → ((k : ℕ) → k < n → f k ≤ g k) → (k : ℕ) → k < n → f k < g k → sum_below f n < sum_below g n
  unfolding sum_below
  sum_lt zero all k h less = absurd (not-suc-le-zero h)
  sum_lt (suc n) all k h less =
      ⊎_elim
      (λ q. let e : f k ≡ f n = ap f q in let d : g k ≡ g n = ap g q in let below = sum_le n (λ j l. all j (omega arith)) in omega arith)
      (λ l. let below = sum_lt n (λ j m. all j (omega arith)) k l less in let here = all n (omega arith) in omega arith)
      (eq-or-lt_of_le (le_of_suc-le-suc h))

  -- one by one at most, and the sums equal: one by one equal
  pub sum_tight : (n : ℕ) → ((k : ℕ) → k < n → f k ≤ g k) → sum_below f n ≡ sum_below g n → (k : ℕ) → k < n → f k ≡ g k
  sum_tight n all e k h =
      ⊎_elim (λ l. let less = sum_lt n all k h l in let no : ⊥ = omega arith in absurd no) (λ l. let here = all k h in omega arith) (lt_or_le (f k) (g k))

  -- one more at one place, and the same elsewhere: the sum is one more
  pub sum_raised : (n k : ℕ) → k < n → g k ≡ f k + 1 → ((j : ℕ) → j ≢ k → g j ≡ f j) → sum_below g n ≡ sum_below f n + 1
  unfolding sum_below
  sum_raised zero k h here others = absurd (not-suc-le-zero h)
  sum_raised (suc n) k h here others =
      ⊎_elim
      (λ q. let e : f k ≡ f n = ap f q in let d : g k ≡ g n = ap g q in let below = below_same q in omega arith)
      (λ l. let below = sum_raised n k l here others in let last = others n (λ e. let no : ⊥ = omega arith in no) in omega arith)
      (eq-or-lt_of_le (le_of_suc-le-suc h))
    where
      below_same : k ≡ n → sum_below f n ≡ sum_below g n
      below_same q = sum_same n (λ j l. sym (others j (λ e. let no : ⊥ = omega arith in no)))

-- the sums of the two parts of each
pub sum_add : (f g h : ℕ → ℕ) (n : ℕ) → ((k : ℕ) → k < n → f k + g k ≡ h k) → sum_below f n + sum_below g n ≡ sum_below h n
unfolding sum_below
sum_add f g h zero all = refl
sum_add f g h (suc n) all = let below = sum_add f g h n (λ k l. all k (omega arith)) in let here = all n (omega arith) in omega arith

-- the same number n times
pub sum_constant : (c n : ℕ) → sum_below (λ (k : ℕ). c) n ≡ c * n
unfolding sum_below
sum_constant c zero = sym (mul-zero c)
sum_constant c (suc n) = let e = mul-suc c n in let below = sum_constant c n in omega arith

-- the sum of the first m, and of the n after them
pub sum_split : (f : ℕ → ℕ) (m n : ℕ) → sum_below f (m + n) ≡ sum_below f m + sum_below (λ (k : ℕ). f (m + k)) n
unfolding sum_below
sum_split f m zero = simp unary_clauses
sum_split f m (suc n) = let before = sum_split f m n in simp unary_clauses (omega arith)

-- a sum of sums, added up in the other order
pub sum_swap : (f : ℕ → ℕ → ℕ) (m n : ℕ) → sum_below (λ (k : ℕ). sum_below (f k) m) n ≡ sum_below (λ (w : ℕ). sum_below (λ (k : ℕ). f k w) n) m
unfolding sum_below
sum_swap f m zero = omega (arith, sum_constant 0 m)
sum_swap f m (suc n) =
    rw (sum_swap f m n) (sum_add (λ (w : ℕ). sum_below (λ (k : ℕ). f k w) n) (f n) (λ (w : ℕ). sum_below (λ (k : ℕ). f k w) (suc n)) m (λ w h. refl))
