-- Laws of `tabulate` and `replicate`. Assumes nothing.
use mathlib.Core.Path.{◌≡◌, refl, ◌∙◌, sym, ap}
use mathlib.Core.Logic.{⊎_elim}
use mathlib.Core.List.{List, [], ◌∷◌, ◌++◌, append-nil, append_assoc}
use Prim.Native.Nat.{ℕ, zero, suc, ◌+◌, ◌<◌, ◌≤◌}
use native.Mathlib.Nat.{not-suc-le-zero, eq-or-lt_of_le, le_of_suc-le-suc}
use native.Mathlib.Numerals.{add-one}
use native.Mathlib.Omega.{arith}
use lib.ListN.{length, get_or, set, take, drop, drop_of_length-le, length-append, length-drop, get_or-append, get_or-eq_default, replicate, length-replicate, get_or-replicate}
use lib.Seq.{get_or_at, ext_get_or, drop-cons, set_at}
use Rattle.ranges.specs.Fold.{tabulate}
use Rattle.ranges.proofs.Order.{lt_or_le}

module _ {A : Type 0} (f : ℕ → A) where
  pub length_tabulate : (n : ℕ) → length (tabulate f n) ≡ n
  unfolding tabulate
  length_tabulate zero = refl
  length_tabulate (suc n) = simp (length-append, length_tabulate n) (omega arith)

  pub get_d_tabulate : (n k : ℕ) (d : A) → k < n → get_or (tabulate f n) k d ≡ f k
  unfolding tabulate
  get_d_tabulate zero k d h = absurd (not-suc-le-zero h)
  get_d_tabulate (suc n) k d h =
      ⊎_elim
      (λ q. get_or_at (tabulate f n) (f n) [] d k (length_tabulate n ∙ sym q) ∙ ap f (sym q))
      (λ lt. get_or-append (tabulate f n) (f n ∷ []) d k (rw (length_tabulate n) lt) ∙ get_d_tabulate n k d lt)
      (eq-or-lt_of_le (le_of_suc-le-suc h))

  pub get_d_tabulate_past : (n k : ℕ) (d : A) → n ≤ k → get_or (tabulate f n) k d ≡ d
  get_d_tabulate_past n k d h = get_or-eq_default (tabulate f n) d (rw (length_tabulate n) h)

-- a list is the table of its elements
pub tabulate_list : {A : Type 0} (f : ℕ → A) (n : ℕ) (d : A) (l : List A) → length l ≡ n → ((k : ℕ) → k < n → get_or l k d ≡ f k) → l ≡ tabulate f n
tabulate_list f n d l e same =
    ext_get_or d l (tabulate f n) (e ∙ sym (length_tabulate f n)) (λ k h. same k (rw e at h) ∙ sym (get_d_tabulate f n k d (rw e at h)))

-- two functions that agree below n
pub tabulate_same : {A : Type 0} (f g : ℕ → A) (n : ℕ) → ((k : ℕ) → k < n → f k ≡ g k) → tabulate f n ≡ tabulate g n
unfolding tabulate
tabulate_same f g zero same = refl
tabulate_same f g (suc n) same = rw (tabulate_same f g n (λ k h. same k (omega arith)), same n (omega arith))

-- a list of one element over and over gives it at every place, with it as the default
pub get_d_replicate_all : {A : Type 0} (n k : ℕ) (a : A) → get_or (replicate n a) k a ≡ a
get_d_replicate_all n k a =
    ⊎_elim (λ l. get_or-replicate n k a a l) (λ l. get_or-eq_default (replicate n a) a (rw (length-replicate n a) l)) (lt_or_le k n)

-- the first of them are the same
pub take_replicate : {A : Type 0} (n m : ℕ) (a : A) → n ≤ m → take n (replicate m a) ≡ replicate n a
take_replicate zero m a h = refl
take_replicate (suc n) zero a h = absurd (not-suc-le-zero h)
take_replicate (suc n) (suc m) a h = ap (λ l. a ∷ l) (take_replicate n m a (le_of_suc-le-suc h))

-- the first words of a list written one by one: none, one more, the next one, which is as it was, and the length
module _ (f : ℕ → ℕ) (l : List ℕ) where
  pub store_none : tabulate f 0 ++ drop 0 l ≡ l
  unfolding tabulate
  store_none = refl

  pub store_more : (n : ℕ) → n < length l → set (tabulate f n ++ drop n l) n (f n) ≡ tabulate f (n + 1) ++ drop (n + 1) l
  unfolding tabulate
  store_more n h =
      rw (add-one, drop-cons l n 0 h)
      (set_at (tabulate f n) (get_or l n 0) (drop (suc n) l) (f n) n (length_tabulate f n) ∙ sym (append_assoc (tabulate f n) (f n ∷ []) (drop (suc n) l)))

  pub store_next : (n : ℕ) → n < length l → get_or (tabulate f n ++ drop n l) n 0 ≡ get_or l n 0
  store_next n h = rw (drop-cons l n 0 h) (get_or_at (tabulate f n) (get_or l n 0) (drop (suc n) l) 0 n (length_tabulate f n))

  pub store_length : (n : ℕ) → n ≤ length l → length (tabulate f n ++ drop n l) ≡ length l
  store_length n h = simp (length-append, length_tabulate, length-drop) (omega arith)

-- .. is the table when all are written
pub full_table : {A : Type 0} (f : ℕ → A) (l : List A) (w : ℕ) → length l ≤ w → tabulate f w ++ drop w l ≡ tabulate f w
full_table f l w h = rw (drop_of_length-le l h) (append-nil (tabulate f w))
