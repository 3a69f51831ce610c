-- Laws of `any_below`, and what a loop that looks for a number with p keeps.
-- Assumes nothing.
use mathlib.Core.Path.{◌≡◌, refl, ◌∙◌, sym, ap}
use mathlib.Core.Bool.{Bool, true, false, ◌||◌, false≢true}
use mathlib.Core.Logic.{⊎_elim}
use Prim.Native.Nat.{ℕ, zero, suc, ◌+◌, ◌<◌, ◌≤◌}
use native.Mathlib.Nat.{not-suc-le-zero, eq-or-lt_of_le, le_of_suc-le-suc}
use native.Mathlib.Numerals.{add-one}
use native.Mathlib.Omega.{arith}
use Rattle.ranges.specs.Fold.{any_below}
use Rattle.ranges.proofs.Bools.{or_false_left, or_false_right}

module _ (p : ℕ → Bool) where
  pub any_none : any_below p 0 ≡ false
  unfolding any_below
  any_none = refl

  pub any_more : (n : ℕ) → any_below p n ≡ false → p n ≡ false → any_below p (n + 1) ≡ false
  unfolding any_below
  any_more n before here = rw (add-one, before) here

  pub any_next : (n : ℕ) → any_below p (n + 1) ≡ (any_below p n || p n)
  unfolding any_below
  any_next n = rw add-one

  -- none below n: not this one
  pub any_each : (n : ℕ) → any_below p n ≡ false → (k : ℕ) → k < n → p k ≡ false
  unfolding any_below
  any_each zero e k h = absurd (not-suc-le-zero h)
  any_each (suc n) e k h =
      ⊎_elim (λ q. ap p q ∙ or_false_right (any_below p n) (p n) e) (λ lt. any_each n (or_false_left (any_below p n) (p n) e) k lt)
      (eq-or-lt_of_le (le_of_suc-le-suc h))

  pub any_found : (n k : ℕ) → k < n → p k ≡ true → any_below p n ≡ true
  any_found n k h e = go (any_below p n) refl
    where
      go : (b : Bool) → any_below p n ≡ b → any_below p n ≡ true
      go true q = q
      go false q = absurd (false≢true (sym (any_each n q k h) ∙ e))

  -- each below n does not: none does
  pub any_every : (n : ℕ) → ((k : ℕ) → k < n → p k ≡ false) → any_below p n ≡ false
  unfolding any_below
  any_every zero all = refl
  any_every (suc n) all = rw (any_every n (λ k h. all k (omega arith))) (all n (omega arith))

  -- some below n does: a witness
  pub any_some : (n : ℕ) → any_below p n ≡ true → (k : ℕ) × (k < n) × (p k ≡ true)
  unfolding any_below
  any_some zero e = absurd (false≢true e)
  any_some (suc n) e = go (any_below p n) refl (any_some n)
    where
      go : (b : Bool) → any_below p n ≡ b → (any_below p n ≡ true → (k : ℕ) × (k < n) × (p k ≡ true)) → (k : ℕ) × (k < suc n) × (p k ≡ true)
      go true q below = let w = below q in (w.0, omega arith, w.2)
      go false q below = (n, omega arith, (rw q at e))

-- equal tests below n
pub any_same : (p q : ℕ → Bool) (n : ℕ) → ((k : ℕ) → k < n → p k ≡ q k) → any_below p n ≡ any_below q n
unfolding any_below
any_same p q zero same = refl
any_same p q (suc n) same = rw (any_same p q n (λ k h. same k (omega arith)), same n (omega arith))

-- a loop that looks for a number with p below m has found none among the first k
pub record Sought (p : ℕ → Bool) (m k : ℕ) : Type 0 where
  pub few : k ≤ m
  pub none : any_below p k ≡ false

pub sought_none : {p : ℕ → Bool} {m : ℕ} → Sought p m 0
sought_none {p} = record { few = omega arith; none = any_none p }

-- .. it goes on, stops early, or comes to the end: m was read, and is n
module _ {p : ℕ → Bool} {m k : ℕ} (s : Sought p m k) where
  pub sought_more : k < m → {b : Bool} → b ≡ p k → b ≡ false → Sought p m (k + 1)
  sought_more h said test = record { few = omega arith; none = any_more p k s.none (sym said ∙ test) }

  pub sought_found : k < m → {b : Bool} → b ≡ p k → b ≡ true → {n : ℕ} → m ≡ n → true ≡ any_below p n
  sought_found h said test size = sym (any_found p _ k (rw size at h) (sym said ∙ test))

  pub sought_end : m ≤ k → {n : ℕ} → m ≡ n → false ≡ any_below p n
  sought_end h size = let last : k ≡ m = omega arith in sym (rw (last, size) at s.none)
