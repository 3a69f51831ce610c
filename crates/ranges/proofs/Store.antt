-- A list after one store. Assumes nothing.
use mathlib.Core.Path.{◌≡◌, ap}
use mathlib.Core.Logic.{◌⊎◌, inl, inr, ⊎_elim, ◌≢◌}
use mathlib.Core.List.{List}
use Prim.Native.Nat.{ℕ, ◌<◌, ◌≤◌}
use native.Mathlib.Omega.{arith}
use lib.ListN.{length, get_or, set}
use lib.Seq.{get_or-set_same, get_or-set_other, set_out}
use Rattle.ranges.proofs.Order.{lt_or_le, eq_or_ne}

-- an element after a store: the stored one at its place, and as before at every other
pub set_cases : {A : Type 0} (l : List A) (v : ℕ) (a d : A) (w : ℕ) → v < length l
    → ((w ≡ v) × (get_or (set l v a) w d ≡ a)) ⊎ ((w ≢ v) × (get_or (set l v a) w d ≡ get_or l w d))
set_cases l v a d w h =
    ⊎_elim (λ q. inl (q, rw q (get_or-set_same l v a d h))) (λ other. inr (other, get_or-set_other l v w a d other)) (eq_or_ne w v)

-- a store of a larger number lowers none
pub set_grows : (l : List ℕ) (v a : ℕ) → get_or l v 0 ≤ a → (w : ℕ) → get_or l w 0 ≤ get_or (set l v a) w 0
set_grows l v a h w =
    ⊎_elim
    (λ inside. ⊎_elim (λ c. let e : get_or l w 0 ≡ get_or l v 0 = ap (λ (z : ℕ). get_or l z 0) c.0 in omega (arith, c.1)) (λ c. omega (arith, c.1)) (set_cases l v a 0 w inside))
    (λ past. rw (set_out l v a past) (omega arith))
    (lt_or_le v (length l))
