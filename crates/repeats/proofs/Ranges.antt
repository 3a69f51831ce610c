-- What a no of `any` over the numbers 0 .. n - 1 tells, where a no of the closure tells it of its number. Assumes nothing.
use Rattle.std.proofs.Common.{◌≡◌, arith, zero-add, Bool, false, ℕ, ◌-◌, ◌<◌}
use Rattle.std.specs.Prelude.{Option}
use Rattle.std.specs.Fn.{Called}
use Rattle.std.specs.Iterator.{ChecksAny}
use Rattle.std.specs.List.{range_with_len}
use Rattle.std.proofs.lemmas.Bool.Decides.{when_false}
use Rattle.std.proofs.lemmas.Iterator.{YieldsList, cases_from_any}
use Rattle.std.proofs.lemmas.List.FromFn.{length-range_with_len, get_or-range_with_len}
use denote.Param.Members.{Mut}

module _ {S F : Type 0} {steps : S → Option ℕ → S → Type 0} {g : Mut F (ℕ × Unit {0}) Bool} {s : S} (No : ℕ → Type 0) (u : S) (f : F) (r : Bool) {n : ℕ} where
  pub none_in_range : ChecksAny steps g s f r u → YieldsList steps (λ x. x) s (range_with_len 0 (n - 0))
      → ((x : ℕ) (q : F) → Called g f (x, tt) false q → (q ≡ f) × No x) → r ≡ false → (k : ℕ) → k < n → No k
  none_in_range ran all told none k h =
      let each = when_false _ _ none (cases_from_any u f r (λ x. Unit {0}) No ran all (λ x q c. tt) told) in
      let inside : k < n - 0 = omega arith in
      rw (get_or-range_with_len 0 (n - 0) k 0 inside, zero-add k) at (each k 0 (omega arith) (rw length-range_with_len inside))
