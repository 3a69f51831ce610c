-- What a chain over the numbers 0 .. n - 1 answers, in the words of the folds. Assumes nothing.
use Rattle.std.proofs.Common.{◌≡◌, refl, ap, ◌∙◌, arith, Bool, true, false, ℕ, zero, suc, ◌+◌, ◌-◌, List, [], ◌∷◌, ◌++◌}
use mathlib.Core.Bool.{◌||◌}
use Rattle.std.specs.Prelude.{Option}
use Rattle.std.specs.List.{list_any, range_with_len}
use Rattle.std.proofs.lemmas.Iterator.{YieldsList}
use Rattle.std.proofs.lemmas.Iterator.Search.{any_from_yields_List}
use Rattle.std.proofs.lemmas.List.Folds.{list_any-append}
use Rattle.std.specs.Iterator.{ChecksAny}
use Rattle.std.specs.Fn.{Called}
use denote.Param.Members.{Mut}
use Rattle.ranges.specs.Fold.{any_below}

end_last : (a n : ℕ) → range_with_len a (suc n) ≡ range_with_len a n ++ (a + n) ∷ []
end_last a zero = let e : a ≡ a + 0 = omega arith in ap (λ (x : ℕ). x ∷ []) e
end_last a (suc n) = let e : a + 1 + n ≡ a + suc n = omega arith in ap (λ (l : List ℕ). a ∷ l) (end_last (a + 1) n ∙ ap (λ (x : ℕ). range_with_len (a + 1) n ++ x ∷ []) e)

or_nothing : (a : Bool) → (a || false) ≡ a
or_nothing true = refl
or_nothing false = refl

-- whether p holds of some number in the range
pub any_of_range : (p : ℕ → Bool) (n : ℕ) → list_any p (range_with_len 0 n) ≡ any_below p n
unfolding any_below
any_of_range p zero = refl
any_of_range p (suc n) =
    let last : 0 + n ≡ n = omega arith in
    ap (list_any p) (end_last 0 n ∙ ap (λ (x : ℕ). range_with_len 0 n ++ x ∷ []) last) ∙ list_any-append p (range_with_len 0 n) (n ∷ [])
    ∙ ap (λ (b : Bool). b || (p n || false)) (any_of_range p n) ∙ ap (λ (b : Bool). any_below p n || b) (or_nothing (p n))

-- .. as `any` of `(0..m)` says it, where each call of the closure answers p and leaves the closure as it was
module _ {S F : Type 0} {steps : S → Option ℕ → S → Type 0} {g : Mut F (ℕ × Unit {0}) Bool} {s : S} (p : ℕ → Bool) (u : S) (f : F) (r : Bool) {m : ℕ} where
  pub any_in_range : ChecksAny steps g s f r u → YieldsList steps (λ x. x) s (range_with_len 0 (m - 0)) → {n : ℕ} → m ≡ n
      → ((x : ℕ) (b : Bool) (q : F) → Called g f (x, tt) b q → (q ≡ f) × (b ≡ p x)) → r ≡ any_below p n
  any_in_range ran all e told =
      let size : m - 0 ≡ m = omega arith in
      any_from_yields_List p u f r ran all told ∙ ap (λ (k : ℕ). list_any p (range_with_len 0 k)) (size ∙ e) ∙ any_of_range p _
