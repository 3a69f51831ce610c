-- Laws of `first_below`, `first_from` and `last_below`. Assumes nothing.
use mathlib.Core.Path.{◌≡◌, refl, ◌∙◌, sym, ap}
use mathlib.Core.Bool.{Bool, true, false, cond, false≢true}
use mathlib.Core.Logic.{⊎_elim}
use Prim.Native.Nat.{ℕ, zero, suc, ◌+◌, ◌<◌, ◌≤◌}
use native.Mathlib.Nat.{not-suc-le-zero, eq-or-lt_of_le, le_of_suc-le-suc}
use native.Mathlib.Numerals.{add-one}
use native.Mathlib.Omega.{arith}
use borrow.Author.Tests.{lt-ltb, le-ltb, le-leb, lt-leb}
use lib.Dec.{ltb}
use Rattle.ranges.specs.Fold.{any_below, first_below, from_on, first_from, last_below}
use Rattle.ranges.proofs.Order.{lt_or_le}
use Rattle.ranges.proofs.Any.{any_each, any_every, any_found}

-- what the first number with p is: at most n, none before it has p, and it has p where it is below n
pub record IsFirst (p : ℕ → Bool) (n k : ℕ) : Type 0 where
  pub bound : k ≤ n
  pub before : (j : ℕ) → j < k → p j ≡ false
  pub found : k < n → p k ≡ true

module _ (p : ℕ → Bool) where
  pub first : (n : ℕ) → IsFirst p n (first_below p n)
  unfolding first_below
  first zero = record { bound = omega arith; before = λ j h. absurd (not-suc-le-zero h); found = λ h. absurd (not-suc-le-zero h) }
  first (suc n) = go (first n)
    where
      here : (b : Bool) → p n ≡ b → first_below p n ≡ n → IsFirst p n (first_below p n) → IsFirst p (suc n) (cond b n (suc n))
      here true q e below = record { bound = omega arith; before = λ j h. below.before j (rw e h); found = λ h. q }
      here false q e below =
          record {
            bound = omega arith;
            before = λ j h. ⊎_elim (λ s. ap p s ∙ q) (λ l. below.before j (rw e l)) (eq-or-lt_of_le (le_of_suc-le-suc h));
            found = λ h. let no : ⊥ = omega arith in absurd no;
          }

      go : IsFirst p n (first_below p n) → IsFirst p (suc n) (cond (ltb (first_below p n) n) (first_below p n) (cond (p n) n (suc n)))
      go below =
          ⊎_elim
          (λ l. rw (lt-ltb (first_below p n) n l) (record { bound = omega (arith, below.bound); before = below.before; found = λ h. below.found l }))
          (λ l. let e : first_below p n ≡ n = omega (arith, below.bound) in rw (le-ltb (first_below p n) n l) (here (p n) refl e below))
          (lt_or_le (first_below p n) n)

  -- there is one such number only
  pub first_unique : (n k : ℕ) → IsFirst p n k → k ≡ first_below p n
  first_unique n k is =
      let f = first n in
      ⊎_elim
      (λ l. absurd (false≢true (sym (f.before k l) ∙ is.found (omega (arith, f.bound)))))
      (λ l. ⊎_elim (λ e. sym e) (λ less. absurd (false≢true (sym (is.before (first_below p n) less) ∙ f.found (omega (arith, is.bound))))) (eq-or-lt_of_le l))
      (lt_or_le k (first_below p n))

  -- the loop that looks for it: found at k, or nowhere
  pub first_found : (n k : ℕ) → k < n → any_below p k ≡ false → p k ≡ true → k ≡ first_below p n
  first_found n k h none here = first_unique n k (record { bound = omega arith; before = any_each p k none; found = λ l. here })

  pub first_none : (n k : ℕ) → k ≡ n → any_below p k ≡ false → k ≡ first_below p n
  first_none n k e none =
      first_unique n k (record { bound = omega arith; before = any_each p k none; found = λ l. let no : ⊥ = omega arith in absurd no })

-- what the first number with p from `from` on is
pub record IsFirstFrom (p : ℕ → Bool) (from n k : ℕ) : Type 0 where
  pub bound : k ≤ n
  pub before : (j : ℕ) → from ≤ j → j < k → p j ≡ false
  pub found : k < n → (from ≤ k) × (p k ≡ true)

-- a loop that looks for it has found none among from, .., k - 1
pub record Looked (p : ℕ → Bool) (from k : ℕ) : Type 0 where
  pub low : from ≤ k
  pub none : (j : ℕ) → from ≤ j → j < k → p j ≡ false

module _ (p : ℕ → Bool) (from : ℕ) where
  from_passed : (k : ℕ) → k < from → from_on p from k ≡ false
  unfolding from_on
  from_passed k h = rw (lt-leb from k h)

  from_on_lem : (k : ℕ) → from ≤ k → from_on p from k ≡ p k
  unfolding from_on
  from_on_lem k h = rw (le-leb from k h)

  pub first_from_lem : (n : ℕ) → IsFirstFrom p from n (first_from p from n)
  unfolding first_from
  first_from_lem n =
      let f = first (from_on p from) n in
      record {
        bound = f.bound;
        before = λ j l h. sym (from_on_lem j l) ∙ f.before j h;
        found = λ h.
            ⊎_elim (λ l. absurd (false≢true (sym (from_passed (first_below (from_on p from) n) l) ∙ f.found h)))
            (λ l. (l, sym (from_on_lem (first_below (from_on p from) n) l) ∙ f.found h))
            (lt_or_le (first_below (from_on p from) n) from);
      }

  pub looked_none : Looked p from from
  looked_none = record { low = omega arith; none = λ j l h. let no : ⊥ = omega arith in absurd no }

-- .. it goes on, finds one, or comes to the end
module _ {p : ℕ → Bool} {from k : ℕ} (s : Looked p from k) where
  pub looked_more : {b : Bool} → b ≡ p k → b ≡ false → Looked p from (k + 1)
  looked_more said test =
      record {
        low = omega (arith, s.low);
        none = λ j l h. ⊎_elim (λ q. ap p q ∙ sym said ∙ test) (λ less. s.none j l less) (eq-or-lt_of_le (le_of_suc-le-suc (rw add-one at h)));
      }

  passed : (j : ℕ) → j < k → from_on p from j ≡ false
  passed j h = ⊎_elim (from_passed p from j) (λ l. from_on_lem p from j l ∙ s.none j l h) (lt_or_le j from)

  pub looked_found : (n : ℕ) → k < n → {b : Bool} → b ≡ p k → b ≡ true → k ≡ first_from p from n
  unfolding first_from
  looked_found n h said test = first_unique (from_on p from) n k (record { bound = omega arith; before = passed; found = λ l. from_on_lem p from k s.low ∙ sym said ∙ test })

  pub looked_end : (n : ℕ) → n ≤ k → n ≡ first_from p from n
  unfolding first_from
  looked_end n h =
      first_unique (from_on p from) n n (record { bound = omega arith; before = λ j l. passed j (omega arith); found = λ l. let no : ⊥ = omega arith in absurd no })

-- whether some number below n has p: the first one is below n
pub first_any : (p : ℕ → Bool) (n : ℕ) → ltb (first_from p 0 n) n ≡ any_below p n
first_any p n =
    let f = first_from_lem p 0 n in
    ⊎_elim (λ l. rw (lt-ltb (first_from p 0 n) n l, any_found p n (first_from p 0 n) l (f.found l).1))
    (λ l. rw (le-ltb (first_from p 0 n) n l, any_every p n (λ k h. f.before k (omega arith) (omega arith))))
    (lt_or_le (first_from p 0 n) n)

-- what the last number with p is: below n, it has p, and none after it has p
pub record IsLast (p : ℕ → Bool) (n k : ℕ) : Type 0 where
  pub below : k < n
  pub holds : p k ≡ true
  pub after : (j : ℕ) → j < n → p j ≡ true → j ≤ k

module _ (p : ℕ → Bool) (f : ℕ → ℕ) where
  pub last_none : last_below p f 0 ≡ 0
  unfolding last_below
  last_none = refl

  pub last_more : (n : ℕ) → last_below p f (n + 1) ≡ cond (p n) (f n) (last_below p f n)
  unfolding last_below
  last_more n = rw add-one

  -- no number below n has p
  pub last_zero : (n : ℕ) → ((k : ℕ) → k < n → p k ≡ false) → last_below p f n ≡ 0
  unfolding last_below
  last_zero zero none = refl
  last_zero (suc n) none = rw (none n (omega arith)) (last_zero n (λ k h. none k (omega arith)))

  -- some number below n has p: the last of them
  pub last : (n k : ℕ) → k < n → p k ≡ true → (j : ℕ) × IsLast p n j × (last_below p f n ≡ f j)
  unfolding last_below
  last zero k h e = absurd (not-suc-le-zero h)
  last (suc n) k h e = go (p n) refl (last n)
    where
      go : (b : Bool) → p n ≡ b → ((i : ℕ) → i < n → p i ≡ true → (j : ℕ) × IsLast p n j × (last_below p f n ≡ f j))
          → (j : ℕ) × IsLast p (suc n) j × (cond b (f n) (last_below p f n) ≡ f j)
      go true q below = (n, record { below = omega arith; holds = q; after = λ i l t. omega arith }, refl)
      go false q below =
          let less : (i : ℕ) → i < suc n → p i ≡ true → i < n =
          λ i l t. ⊎_elim (λ s. absurd (false≢true (sym (ap p s ∙ q) ∙ t))) (λ m. m) (eq-or-lt_of_le (le_of_suc-le-suc l)) in
          let w = below k (less k h e) e in
          (w.0, record { below = omega (arith, w.1.below); holds = w.1.holds; after = λ i l t. w.1.after i (less i l t) t }, w.2)
