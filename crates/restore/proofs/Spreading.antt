-- A cut spread over plan words, from the last worker down. Assumes nothing.
use mathlib.Core.Path.{◌≡◌, sym, ◌∙◌}
use mathlib.Core.List.{List}
use Prim.Native.Nat.{ℕ, ◌-◌, ◌*◌, ◌<◌, ◌≤◌}
use native.Mathlib.Omega.{arith}
use lib.ListN.{length, set, take, length-set}
use lib.Seq.{get_or-set_same, get_or-set_other, get_or-take, length-take-le}
use Rattle.ranges.specs.Fold.{tabulate}
use Rattle.ranges.proofs.Order.{at_or_other}
use Rattle.ranges.proofs.Tabulate.{tabulate_list}
use Rattle.lent.specs.Lent.{at}
use Rattle.cost.specs.Words.{cut_in}

-- the words while the cut in the first n of them is spread from the last worker down: below w it stands there yet, and from w on in
-- the first word of each worker
pub record Spread (lent words : List ℕ) (n w : ℕ) : Type 0 where
  pub wide : length words ≡ 3 * n
  pub few : w ≤ n
  pub left : (v : ℕ) → v < w → at words v ≡ at lent v
  pub cuts : (v : ℕ) → w ≤ v → v < n → cut_in words v ≡ at lent v

pub spread_more : {lent words : List ℕ} {n w : ℕ} → Spread lent words n w → 0 < w → Spread lent (set words (3 * (w - 1)) (at words (w - 1))) n (w - 1)
unfolding cut_in
spread_more {lent} {words} {n} {w} s some =
    record {
      wide = simp length-set s.wide;
      few = omega (arith, s.few);
      left = λ v h. get_or-set_other words (3 * (w - 1)) v (at words (w - 1)) 0 (λ e. let no : ⊥ = omega arith in no) ∙ s.left v (omega arith);
      cuts = at_or_other (w - 1) (λ v. w - 1 ≤ v → v < n → at (set words (3 * (w - 1)) (at words (w - 1))) (3 * v) ≡ at lent v)
          (λ low h. get_or-set_same words (3 * (w - 1)) (at words (w - 1)) 0 (omega (arith, s.wide, s.few)) ∙ s.left (w - 1) (omega arith))
          (λ v other low h. get_or-set_other words (3 * (w - 1)) (3 * v) (at words (w - 1)) 0 (λ e. other (omega (arith, e))) ∙ s.cuts v (omega (arith, other)) h);
    }

pub spread_all : {lent words : List ℕ} {n w : ℕ} → length lent ≡ 3 * n → Spread lent words n w → w ≤ 0 → tabulate (cut_in words) n ≡ take n lent
spread_all {lent} {words} {n} wide s none =
    sym (tabulate_list (cut_in words) n 0 (take n lent) (length-take-le n lent (omega arith)) (λ v h. get_or-take n lent v 0 h ∙ sym (s.cuts v (omega arith) h)))
