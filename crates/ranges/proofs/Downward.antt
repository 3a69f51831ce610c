-- What `find` over a range from its last number down answers, in the words of `last_below`. Assumes nothing.
use Rattle.std.proofs.Common.{◌≡◌, refl, sym, ◌∙◌, ap, ℕ, zero, suc, ◌+◌, ◌-◌, arith, Bool, true, false, cond, List, [], ◌∷◌, length, None, Some}
use native.Mathlib.Numerals.{add-one}
use denote.Param.Members.{Mut}
use denote.Ref.{Bor}
use Rattle.std.specs.declared.option.Option.{Option}
use Rattle.std.specs.declared.ops.RangeInclusive.{RangeInclusive}
use Rattle.std.specs.declared.iter.Rev.{Rev}
use Rattle.std.specs.Bool.{⊤}
use Rattle.std.specs.Fn.{CalledAt}
use Rattle.std.specs.Iterator.{YieldsThen}
use Rattle.std.specs.Iterator.Adapters.{rev_source, rev_steps}
use Rattle.std.specs.List.{FoldsTo, find}
use Rattle.std.specs.Option.{MatchOption, unwrap_or}
use Rattle.std.specs.Range.{range_inclusive_start, range_inclusive_end, range_inclusive_exhausted, range_inclusive_left, range_inclusive_steps_back}
use Rattle.std.proofs.lemmas.Iterator.{YieldsList}
use Rattle.std.proofs.lemmas.Iterator.Consumers.{YieldsList-from_shown}
use Rattle.std.proofs.lemmas.Iterator.Adapters.{option_map_id}
use Rattle.std.proofs.lemmas.Iterator.Search.{find_from_yields_List}
use Rattle.ranges.specs.Fold.{last_below}

-- n numbers, from `last` down
abbrev falling : ℕ → ℕ → List ℕ
falling last zero = []
falling last (suc n) = last ∷ falling (last - 1) n

-- the last of them with p, 0 where there is none
module _ (p : ℕ → Bool) where
  or_zero : (b : Bool) (k m : ℕ) (o : Option ℕ) → unwrap_or o 0 ≡ m → unwrap_or (cond b (Some k) o) 0 ≡ cond b k m
  or_zero true k m o e = refl
  or_zero false k m o e = e

  last_falling : (n : ℕ) → unwrap_or (find p (falling n (suc n))) 0 ≡ last_below p (λ c. c) (suc n)
  unfolding last_below
  last_falling zero = or_zero (p 0) 0 0 None refl
  last_falling (suc n) =
      let before : suc n - 1 ≡ n = omega arith in
      or_zero (p (suc n)) (suc n) (last_below p (λ c. c) (suc n)) (find p (falling (suc n - 1) (suc n)))
      (ap (λ (k : ℕ). unwrap_or (find p (falling k (suc n))) 0) before ∙ last_falling n)

-- how a range of unsigned numbers falls
abbrev left : RangeInclusive ℕ → ℕ
left s = range_inclusive_left (λ a b. b - a) s

abbrev pub falling_steps : Rev (RangeInclusive ℕ) → Option ℕ → Rev (RangeInclusive ℕ) → Type 0
falling_steps = rev_steps (range_inclusive_steps_back (λ a b. b - a) (λ a b. b ≡ a + 1))

rest_falls : (last next m : ℕ) (spent : Bool) → (spent ≡ true → m ≡ 0) → (spent ≡ false → last ≡ next + 1) → falling (last - 1) m ≡ falling next m
rest_falls last next m true none step = rw (none refl)
rest_falls last next m false none step = let before : last - 1 ≡ next = omega (arith, step refl) in ap (λ (k : ℕ). falling k m) before

none_left : (t : RangeInclusive ℕ) → range_inclusive_exhausted t ≡ true → left t ≡ 0
none_left t spent = rw spent

all_left : (t : RangeInclusive ℕ) (n : ℕ) → range_inclusive_start t ≡ 0 → range_inclusive_end t ≡ n → range_inclusive_exhausted t ≡ false → left t ≡ suc n
all_left t n start end fresh = rw (fresh, start, end) (omega arith)

abbrev left_in : Rev (RangeInclusive ℕ) → List ℕ
left_in s = falling (range_inclusive_end (rev_source s)) (left (rev_source s))

left_falls : (s t : Rev (RangeInclusive ℕ)) (x : ℕ) → falling_steps s (Some x) t → left_in s ≡ x ∷ left_in t
left_falls s t x step =
    let last = range_inclusive_end (rev_source s) in
    let next = range_inclusive_end (rev_source t) in
    let rest = left (rev_source t) in
    let more : left (rev_source s) ≡ suc rest = omega (arith, step.1.1) in
    let falls = rest_falls last next rest (range_inclusive_exhausted (rev_source t)) (none_left (rev_source t)) step.1.2 in
    ap (falling last) more ∙ ap (λ (l : List ℕ). last ∷ l) falls ∙ ap (λ (k : ℕ). k ∷ falling next rest) (sym step.1.0)

falling_range : (s : Rev (RangeInclusive ℕ)) → YieldsList falling_steps (λ x. x) s (left_in s)
falling_range s =
    YieldsList-from_shown falling_steps (λ x. x) left_in (λ r t e. ap (λ (n : ℕ). length (falling (range_inclusive_end (rev_source r)) n)) e.1.0)
    (λ r x t e. left_falls r t x e) s

-- `find` over `(0..=n).rev()`, each call of whose closure answers p and leaves the closure as it was: the last number with p, or 0 in its place
module _ {F : Type 0} {g : Mut F (Bor ℕ × Unit {0}) Bool} (p : ℕ → Bool) (s u : Rev (RangeInclusive ℕ)) (f : F) (r : Option ℕ) where
  pub last_in_range : (xs : List ℕ) × (j : F) × YieldsThen falling_steps s xs r u × FoldsTo (λ q x t. CalledAt g q x false t) f xs j × MatchOption r ⊤ (λ x. (h : F) × CalledAt g j x true h)
      → ((x : ℕ) (b : Bool) (q : F) → CalledAt g f x b q → (q ≡ f) × (b ≡ p x))
      → {t : RangeInclusive ℕ} {n : ℕ} → rev_source s ≡ t → range_inclusive_start t ≡ 0 → range_inclusive_end t ≡ n → range_inclusive_exhausted t ≡ false
      → unwrap_or r 0 ≡ last_below p (λ c. c) (n + 1)
  last_in_range ran told {t} {n} source start end fresh =
      let listed : left_in s ≡ falling n (suc n) = rw source (ap (λ (k : ℕ). falling k (left t)) end ∙ ap (falling n) (all_left t n start end fresh)) in
      let found : r ≡ find p (left_in s) = sym (option_map_id r) ∙ find_from_yields_List p u f r ran (falling_range s) told in
      ap (λ (o : Option ℕ). unwrap_or o 0) found ∙ ap (λ (l : List ℕ). unwrap_or (find p l) 0) listed ∙ last_falling p n ∙ ap (last_below p (λ c. c)) (sym (add-one n))
