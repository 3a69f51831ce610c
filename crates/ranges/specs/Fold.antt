-- Folds over the numbers 0 .. n - 1. The last number is outermost, as in a loop that counts up.
-- Assumes nothing.
use Rattle.std.specs.Prelude.{Bool, false, cond, ◌&&◌, ◌||◌, List, [], ◌∷◌, ◌++◌, ℕ, zero, suc, ◌+◌, max, leb, ltb}

-- whether p holds of some number below n
unfoldable pub any_below : (ℕ → Bool) → ℕ → Bool
any_below p zero = false
any_below p (suc n) = any_below p n || p n

-- the largest of f 0, .., f (n - 1), and 0 where there is none
unfoldable pub max_below : (ℕ → ℕ) → ℕ → ℕ
max_below f zero = 0
max_below f (suc n) = max (max_below f n) (f n)

-- the sum of f 0, .., f (n - 1)
unfoldable pub sum_below : (ℕ → ℕ) → ℕ → ℕ
sum_below f zero = 0
sum_below f (suc n) = sum_below f n + f n

-- the first number below n of which p holds, and n where there is none
unfoldable pub first_below : (ℕ → Bool) → ℕ → ℕ
first_below p zero = 0
first_below p (suc n) = cond (ltb (first_below p n) n) (first_below p n) (cond (p n) n (suc n))

-- whether k is a number from `from` on of which p holds
unfoldable pub from_on : (ℕ → Bool) → ℕ → ℕ → Bool
from_on p from k = leb from k && p k

-- the first number from `from` on and below n of which p holds, and n where there is none
unfoldable pub first_from : (ℕ → Bool) → ℕ → ℕ → ℕ
first_from p from n = first_below (from_on p from) n

-- f of the last number below n of which p holds, and 0 where there is none
unfoldable pub last_below : (ℕ → Bool) → (ℕ → ℕ) → ℕ → ℕ
last_below p f zero = 0
last_below p f (suc n) = cond (p n) (f n) (last_below p f n)

-- the list f 0, .., f (n - 1)
unfoldable pub tabulate {ℓ} : {A : Type ℓ} → (ℕ → A) → ℕ → List A
tabulate f zero = []
tabulate f (suc n) = tabulate f n ++ (f n ∷ [])

-- f k for each k below n of which p holds, in order
unfoldable pub keep_below {ℓ} : {A : Type ℓ} → (ℕ → Bool) → (ℕ → A) → ℕ → List A
keep_below p f zero = []
keep_below p f (suc n) = cond (p n) (keep_below p f n ++ (f n ∷ [])) (keep_below p f n)

-- the lists f 0, .., f (n - 1), one after the other
unfoldable pub join_below : (ℕ → List ℕ) → ℕ → List ℕ
join_below f zero = []
join_below f (suc n) = join_below f n ++ f n

-- a state after act 0, .., act (n - 1), in this order
unfoldable pub sweep {ℓ} : {A : Type ℓ} → (ℕ → A → A) → ℕ → A → A
sweep act zero s = s
sweep act (suc n) s = act n (sweep act n s)
