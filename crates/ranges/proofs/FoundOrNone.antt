-- What `find` over a range tells, where it found a number and where it found none. Assumes nothing.
use Rattle.std.proofs.Common.{◌≡◌, sym, ℕ, ◌<◌, ◌≤◌, Bool, true, false, List}
use Rattle.std.specs.declared.option.Option.{Option}
use Rattle.std.specs.declared.ops.Range.{Range}
use Rattle.std.specs.Option.{MatchOption}
use Rattle.std.specs.Bool.{⊤}
use Rattle.std.specs.Iterator.{YieldsThen}
use Rattle.std.specs.List.{FoldsTo}
use Rattle.std.specs.Fn.{CalledAt}
use Rattle.std.proofs.iter.Yields.{nat_range_steps}
use Rattle.std.proofs.lemmas.Iterator.{first_from_Range}
use denote.Param.Members.{Mut}
use denote.Ref.{Bor}

-- where each call of the closure answers p and leaves the closure as it was: none of the range has p, or the number found is the first that has
pub found_or_none : {F : Type 0} {g : Mut F (Bor ℕ × Unit {0}) Bool} (p : ℕ → Bool) (s u : Range ℕ) (f : F) (r : Option ℕ)
    → (xs : List ℕ) × (j : F) × YieldsThen nat_range_steps s xs r u × FoldsTo (λ q x t. CalledAt g q x false t) f xs j
    × MatchOption r ⊤ (λ x. (h : F) × CalledAt g j x true h)
    → ((x : ℕ) (b : Bool) (q : F) → CalledAt g f x b q → (q ≡ f) × (b ≡ p x))
    → MatchOption r ((k : ℕ) → s.start ≤ k → k < s.end → p k ≡ false)
    (λ i. (s.start ≤ i) × (i < s.end) × (p i ≡ true) × ((k : ℕ) → s.start ≤ k → k < i → p k ≡ false))
found_or_none p s u f r ran told =
    first_from_Range s u f r (λ k. p k ≡ true) (λ k. p k ≡ false) ran (λ x q k. sym (told x true q k).1)
    (λ x q k. ((told x false q k).0, sym (told x false q k).1))
