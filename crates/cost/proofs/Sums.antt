-- What `map` and `sum` over the numbers 0 .. n - 1 answer, in the words of the folds. Assumes nothing.
use Rattle.std.proofs.Common.{◌≡◌, sym, ap, ◌∙◌, arith, ℕ, zero, suc, ◌+◌, ◌<◌, List, map}
use native.Mathlib.Numerals.{unary_clauses}
use denote.Param.Members.{Mut}
use Rattle.std.specs.declared.ops.Range.{Range}
use Rattle.std.specs.declared.iter.Map.{Map}
use Rattle.std.specs.Bool.{⊤}
use Rattle.std.specs.Fn.{Called}
use Rattle.std.specs.Iterator.{Drains}
use Rattle.std.specs.Iterator.Adapters.{map_source, map_callee}
use Rattle.std.specs.Iterator.Runs.{EachRunFrom}
use Rattle.std.specs.List.{sum_by, range_with_len, fold}
use Rattle.std.proofs.iter.Yields.{nat_range_steps}
use Rattle.std.proofs.lemmas.Iterator.{maps, YieldsList, YieldsList-from_range, YieldsList-from_map}
use Rattle.std.proofs.lemmas.Iterator.Consumers.{sum_by_from_yields_List, fits_by_from_yields_list}
use Rattle.ranges.specs.Fold.{sum_below}
use Rattle.ranges.proofs.Sum.{sum_more}

module _ (f : ℕ → ℕ) where
  -- added to the sum of those below a
  sum_from : (a n : ℕ) → fold (λ s x. s + f x) (sum_below f a) (range_with_len a n) ≡ sum_below f (a + n)
  sum_from a zero = simp unary_clauses
  sum_from a (suc n) =
      let place : a + 1 + n ≡ a + suc n = omega arith in
      ap (λ (b : ℕ). fold (λ s x. s + f x) b (range_with_len (a + 1) n)) (sym (sum_more f a)) ∙ sum_from (a + 1) n ∙ ap (sum_below f) place

  sum_of_range : (n : ℕ) → sum_by f (range_with_len 0 n) ≡ sum_below f n
  unfolding sum_below
  sum_of_range n = let place : 0 + n ≡ n = omega arith in sum_from 0 n ∙ ap (sum_below f) place

  -- where the closure gives f of each number and is left as it was: the sum fits where that of f does, and is it
  module _ {F : Type 0} {g : Mut F (ℕ × Unit {0}) ℕ} {s : Map (Range ℕ) F} {ask : F} {m n : ℕ}
      (source : map_source s ≡ record { start = 0; end = m }) (closure : map_callee s ≡ ask) (size : m ≡ n)
      (told : (x r : ℕ) (q : F) → Called g ask (x, tt) r q → (q ≡ ask) × (r ≡ f x)) where
    road : YieldsList (maps nat_range_steps g) (λ r. r) s (map f (range_with_len 0 n))
    road = YieldsList-from_map g f (YieldsList-from_range 0 m n source (omega arith)) closure told

    pub fits_in_range : (top : ℕ) → sum_below f n < top → EachRunFrom (maps nat_range_steps g) s (λ p. fold (λ a x. a + x) 0 p.items < top)
    fits_in_range top fits = fits_by_from_yields_list f (range_with_len 0 n) s top road (rw (sum_of_range n) fits)

    pub sum_in_range : (r : ℕ) → ((xs : List ℕ) × (⊤ → Drains (maps nat_range_steps g) s xs) × (r ≡ fold (λ a x. a + x) 0 xs)) → r ≡ sum_below f n
    sum_in_range r ran = sum_by_from_yields_List f (range_with_len 0 n) s r ran road ∙ sum_of_range n
