-- The workers word of n workers is below 2 ^ n, and its bit w says whether worker w's word of the cut is above 0. Assumes nothing.
use mathlib.Core.Path.{◌≡◌, sym, ◌∙◌, ap}
use mathlib.Core.Logic.{⊎_elim, ◌≢◌}
use mathlib.Core.Bool.{Bool, true, false, cond}
use mathlib.Core.List.{List}
use Prim.Native.Nat.{ℕ, zero, suc, ◌+◌, ◌-◌, ◌*◌, ◌/◌, ◌%◌, ◌^◌, ◌<◌, ◌≤◌}
use native.Mathlib.Nat.{not-suc-le-zero, pos_of_ne-zero, eq-or-lt_of_le, le_of_suc-le-suc, add-zero, add_comm, one-mul, mod-eq_of_lt, pow-suc, add-mul-div_right, add-mul-mod_self_right}
use native.Mathlib.Omega.{arith}
use borrow.Author.Tests.{lt-ltb}
use lib.Bits.{bit_or, or_shifted_r}
use lib.Dec.{ltb}
use lib.Pow.{pow_pos, high}
use Rattle.ranges.specs.Fold.{sum_below}
use Rattle.ranges.proofs.Powers.{power_split}
use Rattle.ranges.proofs.Sum.{sum_none, sum_more}
use Rattle.lent.specs.Lent.{at}
use Rattle.lower_cut.specs.Workers.{bit_of, workers_word}

-- a bit put above a number below 2 ^ n is its bit n, ..
bit_top : (a b n : ℕ) → a < 2 ^ n → b < 2 → (a + b * 2 ^ n) / 2 ^ n % 2 ≡ b
bit_top a b n h l = rw (add_comm a (b * 2 ^ n), high b n h) (mod-eq_of_lt l)

-- .. and leaves the bits below n
bit_below : (a b n w : ℕ) → w < n → (a + b * 2 ^ n) / 2 ^ w % 2 ≡ a / 2 ^ w % 2
bit_below a b n w h =
    let m = n - suc w in
    let e : suc m + w ≡ n = omega arith in
    let power : b * 2 ^ n ≡ (b * 2 ^ m * 2) * 2 ^ w = ap (λ (k : ℕ). b * 2 ^ k) (sym e) ∙ power_split b m w in
    rw (power, add-mul-div_right a (b * 2 ^ m * 2) (pow_pos w)) (add-mul-mod_self_right (a / 2 ^ w) (b * 2 ^ m) 2)

module _ (cut : List ℕ) where
  -- 1 where worker w's word is above 0, else 0
  above : ℕ → ℕ
  above w = cond (ltb 0 (at cut w)) 1 0

  bit_of_lem : (w : ℕ) → (bit_of cut w ≡ above w * 2 ^ w) × (above w < 2) × (bit_of cut w ≤ 2 ^ w)
  unfolding bit_of above
  bit_of_lem w = test (ltb 0 (at cut w))
    where
      test : (b : Bool) → (cond b (2 ^ w) 0 ≡ cond b 1 0 * 2 ^ w) × (cond b 1 0 < 2) × (cond b (2 ^ w) 0 ≤ 2 ^ w)
      test true = omega arith
      test false = omega arith

  -- the word of n workers has n bits
  pub word_below : (n : ℕ) → workers_word cut n < 2 ^ n
  unfolding workers_word sum_below
  word_below zero = omega arith
  word_below (suc n) = omega (arith, word_below n, (bit_of_lem n).2, pow-suc 2 n)

  -- bit w of the word is set exactly when the cut's word of worker w is above 0
  pub word_bit : (n w : ℕ) → w < n → (workers_word cut n / 2 ^ w) % 2 ≡ cond (ltb 0 (at cut w)) 1 0
  unfolding workers_word sum_below above
  word_bit zero w h = absurd (not-suc-le-zero h)
  word_bit (suc n) w h =
      rw (bit_of_lem n).0
      (⊎_elim (λ q. rw q (bit_top (sum_below (bit_of cut) n) (above n) n (word_below n) (bit_of_lem n).1))
      (λ less. bit_below (sum_below (bit_of cut) n) (above n) n w less ∙ word_bit n w less) (eq-or-lt_of_le (le_of_suc-le-suc h)))

-- the word as a loop makes it, one worker after the other
pub word_none : (cut : List ℕ) → workers_word cut 0 ≡ 0
unfolding workers_word
word_none cut = sum_none (bit_of cut)

word_sum_lem : (cut : List ℕ) (w : ℕ) → workers_word cut (w + 1) ≡ workers_word cut w + bit_of cut w
unfolding workers_word
word_sum_lem cut w = sum_more (bit_of cut) w

-- .. whose word of the cut is above 0, or is 0
pub word_with : (cut : List ℕ) (w : ℕ) → at cut w ≢ 0 → bit_or (workers_word cut w) (2 ^ w) ≡ workers_word cut (w + 1)
unfolding bit_of
word_with cut w some =
    rw (word_sum_lem cut w, lt-ltb 0 (at cut w) (pos_of_ne-zero some))
    (rw (one-mul (2 ^ w)) at (or_shifted_r 1 w (workers_word cut w) (word_below cut w)) ∙ add_comm (2 ^ w) (workers_word cut w))

pub word_without : (cut : List ℕ) (w : ℕ) → at cut w ≡ 0 → workers_word cut w ≡ workers_word cut (w + 1)
unfolding bit_of
word_without cut w none = rw (word_sum_lem cut w, none, add-zero)
