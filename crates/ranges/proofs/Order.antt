-- Two numbers are in one order or the other; what falls comes to an end; what rises step by step rises. Assumes nothing.
use mathlib.Core.Path.{◌≡◌, ap, sym, subst}
use mathlib.Core.Bool.{not}
use mathlib.Core.Logic.{◌⊎◌, inl, inr, ⊎_elim, ◌≢◌}
use Prim.Native.Nat.{ℕ, zero, suc, ◌+◌, ◌<◌, ◌≤◌, zero-le, suc-le-suc}
use native.Mathlib.Nat.{not-suc-le-zero, eq-or-lt_of_le, le_of_suc-le-suc}
use native.Mathlib.Numerals.{add-one}
use native.Mathlib.Omega.{arith}
use borrow.Author.Tests.{lt-ltb, le-ltb, le-leb, lt-leb}
use lib.Dec.{leb, ltb}

pub lt_or_le : (a b : ℕ) → (a < b) ⊎ (b ≤ a)
lt_or_le zero zero = inr zero-le
lt_or_le zero (suc b) = inl (suc-le-suc zero-le)
lt_or_le (suc a) zero = inr zero-le
lt_or_le (suc a) (suc b) = ⊎_elim (λ p. inl (suc-le-suc p)) (λ q. inr (suc-le-suc q)) (lt_or_le a b)

pub eq_or_ne : (a b : ℕ) → (a ≡ b) ⊎ (a ≢ b)
eq_or_ne a b =
    ⊎_elim
    (λ l. inr (λ e. let no : ⊥ = omega arith in no))
    (λ l. ⊎_elim (λ e. inl (omega arith)) (λ g. inr (λ e. let no : ⊥ = omega arith in no)) (eq-or-lt_of_le l))
    (lt_or_le a b)

-- the test of below is the test of at most, turned round
pub ltb_not_leb : (a b : ℕ) → ltb a b ≡ not (leb b a)
ltb_not_leb a b = ⊎_elim (λ l. rw (lt-ltb a b l, lt-leb b a l)) (λ l. rw (le-ltb a b l, le-leb b a l)) (lt_or_le a b)

-- where each number with P has Q, or leads to one with P and a smaller measure, one with P leads to one with Q
pub descend : (measure : ℕ → ℕ) (P Q : ℕ → Type 0) → ((k : ℕ) → P k → Q k ⊎ ((j : ℕ) × P j × (measure j < measure k))) → (k : ℕ) → P k → (j : ℕ) × Q j
descend measure P Q next k p = within (suc (measure k)) k p (omega arith)
  where
    within : (bound k : ℕ) → P k → measure k < bound → (j : ℕ) × Q j
    within zero k p h = let no : ⊥ = omega arith in absurd no
    within (suc bound) k p h = ⊎_elim (λ q. (k, q)) (λ s. within bound s.0 s.1 (omega arith)) (next k p)

-- each step up to n rises: so does f from a to b
pub rising : (f : ℕ → ℕ) (n : ℕ) → ((k : ℕ) → k < n → f k < f (k + 1)) → (a b : ℕ) → a < b → b ≤ n → f a < f b
rising f n step a zero h l = absurd (not-suc-le-zero h)
rising f n step a (suc b) h l =
    let here : f b < f (suc b) = rw add-one at (step b l) in
    ⊎_elim
    (λ q. let e : f a ≡ f b = ap f q in omega arith)
    (λ less. let below = rising f n step a b less (omega arith) in omega arith)
    (eq-or-lt_of_le (le_of_suc-le-suc h))

-- what does not fall step by step does not fall
pub climbing : (f : ℕ → ℕ) (n : ℕ) → ((k : ℕ) → k < n → f k ≤ f (k + 1)) → (a b : ℕ) → a ≤ b → b ≤ n → f a ≤ f b
climbing f n step a zero h l = let e : f a ≡ f 0 = ap f (omega arith) in omega arith
climbing f n step a (suc b) h l =
    ⊎_elim
    (λ e. let same : f a ≡ f (suc b) = ap f e in omega arith)
    (λ m. let before = climbing f n step a b (le_of_suc-le-suc m) (omega arith) in let more : f b ≤ f (suc b) = rw add-one at (step b l) in omega arith)
    (eq-or-lt_of_le h)

-- what holds of p and of every other number holds of every number
pub at_or_other : (p : ℕ) (P : ℕ → Type 0) → P p → ((v : ℕ) → v ≢ p → P v) → (v : ℕ) → P v
at_or_other p P here other v = ⊎_elim (λ e. subst P (sym e) here) (λ n. other v n) (eq_or_ne v p)
