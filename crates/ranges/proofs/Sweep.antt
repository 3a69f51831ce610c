-- Laws of `sweep`. Assumes nothing.
use mathlib.Core.Path.{◌≡◌, refl, ◌∙◌, ap}
use Prim.Native.Nat.{ℕ, zero, suc, ◌+◌, ◌<◌}
use native.Mathlib.Numerals.{add-one}
use native.Mathlib.Omega.{arith}
use Rattle.ranges.specs.Fold.{sweep}

module _ {A : Type 0} (act : ℕ → A → A) where
  pub sweep_none : (s : A) → sweep act 0 s ≡ s
  unfolding sweep
  sweep_none s = refl

  pub sweep_more : (n : ℕ) (s : A) → sweep act (n + 1) s ≡ act n (sweep act n s)
  unfolding sweep
  sweep_more n s = rw add-one

  -- what each turn keeps
  pub sweep_keeps : (P : ℕ → A → Type 0) (n : ℕ) (s : A) → P 0 s → ((k : ℕ) (t : A) → k < n → P k t → P (suc k) (act k t)) → P n (sweep act n s)
  unfolding sweep
  sweep_keeps P zero s base turn = base
  sweep_keeps P (suc n) s base turn = turn n (sweep act n s) (omega arith) (sweep_keeps P n s base (λ k t h p. turn k t (omega arith) p))

-- turns that agree on the states that the sweep comes to
pub sweep_same : {A : Type 0} (act other : ℕ → A → A) (P : ℕ → A → Type 0) (n : ℕ) (s : A) → P 0 s
    → ((k : ℕ) (t : A) → k < n → P k t → P (suc k) (act k t)) → ((k : ℕ) (t : A) → k < n → P k t → act k t ≡ other k t) → sweep act n s ≡ sweep other n s
unfolding sweep
sweep_same act other P zero s base turn same = refl
sweep_same act other P (suc n) s base turn same =
    same n (sweep act n s) (omega arith) (sweep_keeps act P n s base (λ k t h p. turn k t (omega arith) p))
    ∙ ap (other n) (sweep_same act other P n s base (λ k t h p. turn k t (omega arith) p) (λ k t h p. same k t (omega arith) p))
