-- A bit of a table after one is marked. Assumes nothing.
use mathlib.Core.Path.{◌≡◌, sym, ◌∙◌, ap}
use mathlib.Core.Bool.{cond}
use mathlib.Core.Logic.{⊎_elim, ◌≢◌}
use mathlib.Core.List.{List}
use Prim.Native.Nat.{ℕ, zero, suc, ◌+◌, ◌-◌, ◌*◌, ◌/◌, ◌%◌, ◌^◌, ◌<◌, ◌≤◌, max}
use native.Mathlib.Nat.{zero-mul, one-mul, mod-eq_of_lt, div-eq_of_lt, zero-div, zero-mod, div-add-mod, mul-add-mod_self_right, mul-div_cancel, mul-mod_left}
use native.Mathlib.Omega.{arith}
use borrow.Author.Tests.{eq-eqb, ne_eqb}
use lib.Bits.{bit_or, or_step, or_shr}
use lib.Dec.{eqb}
use lib.Pow.{pow_pos, pow-lt, shl-shr}
use lib.ListN.{length, replicate, length-set, get_or-replicate, length-replicate, get_or-eq_default}
use lib.Seq.{get_or-set_same, get_or-set_other}
use Rattle.ranges.proofs.Powers.{power_split}
use Rattle.ranges.proofs.Order.{lt_or_le, eq_or_ne}
use Rattle.lent.specs.Lent.{at}
use Rattle.repeats.specs.Inner.Table.{word_bits, table_bits, bit_at, marked}

-- bit c of an or is the larger of the two
or_low : (a b : ℕ) → bit_or a b % 2 ≡ max (a % 2) (b % 2)
or_low a b =
    ap (λ (n : ℕ). n % 2) (or_step a b) ∙ mul-add-mod_self_right (bit_or (a / 2) (b / 2)) 2 (max (a % 2) (b % 2))
    ∙ mod-eq_of_lt (omega arith)

or_bit : (a b c : ℕ) → bit_or a b / 2 ^ c % 2 ≡ max (a / 2 ^ c % 2) (b / 2 ^ c % 2)
or_bit a b c = ap (λ (n : ℕ). n % 2) (or_shr a b c) ∙ or_low (a / 2 ^ c) (b / 2 ^ c)

-- a bit of 2 ^ b, or of 0
power_bit : (x b c : ℕ) → x < 2 → x * 2 ^ b / 2 ^ c % 2 ≡ cond (eqb b c) x 0
power_bit x b c h =
    ⊎_elim
    (λ less. rw (ne_eqb b c (λ e. let no : ⊥ = omega arith in no)) (above less))
    (λ (most : c ≤ b). ⊎_elim (λ same. rw (eq-eqb b c same, same, shl-shr x c) (mod-eq_of_lt h)) (λ (other : b ≢ c). rw (ne_eqb b c other) (below (omega (arith, other)))) (eq_or_ne b c))
    (lt_or_le b c)
  where
    above : b < c → x * 2 ^ b / 2 ^ c % 2 ≡ 0
    above less = rw (div-eq_of_lt (small x h)) (zero-mod 2)
      where
        small : (x : ℕ) → x < 2 → x * 2 ^ b < 2 ^ c
        small zero h = rw (zero-mul (2 ^ b)) (pow_pos c)
        small (suc zero) h = rw (one-mul (2 ^ b)) (pow-lt less)
        small (suc (suc x)) h = let no : ⊥ = omega arith in absurd no

    below : c < b → x * 2 ^ b / 2 ^ c % 2 ≡ 0
    below less =
        let m = b - suc c in
        let e : suc m + c ≡ b = omega arith in
        let power : x * 2 ^ b ≡ (x * 2 ^ m * 2) * 2 ^ c = ap (λ (k : ℕ). x * 2 ^ k) (sym e) ∙ power_split x m c in
        rw (power, mul-div_cancel (x * 2 ^ m * 2) (pow_pos c)) (mul-mod_left (x * 2 ^ m) 2)

-- the word of bit i is one of the table's
pub word_within : (n i : ℕ) → i < word_bits * n → i / word_bits < n
word_within n i h = omega arith

-- a table of zeros has no bit set
pub bit_none : (n i : ℕ) → bit_at (replicate {A = ℕ} n 0) i ≡ 0
unfolding bit_at
bit_none n i = rw (zeros (i / word_bits), zero-div (2 ^ (i % word_bits))) (zero-mod 2)
  where
    zeros : (k : ℕ) → at (replicate {A = ℕ} n 0) k ≡ 0
    zeros k = ⊎_elim (λ l. get_or-replicate n k 0 0 l) (λ l. get_or-eq_default (replicate {A = ℕ} n 0) 0 (rw length-replicate l)) (lt_or_le k n)

pub bit_small : (table : List ℕ) (i : ℕ) → bit_at table i < 2
unfolding bit_at
bit_small table i = omega arith

pub marked_length : (table : List ℕ) (i x : ℕ) → length (marked table i x) ≡ length table
unfolding marked
marked_length table i x = simp length-set

module _ (table : List ℕ) (i x : ℕ) (h : i < table_bits table) (small : x < 2) where
  -- bit j after bit i is marked
  pub marked_bit : (j : ℕ) → bit_at (marked table i x) j ≡ cond (eqb i j) (max (bit_at table j) x) (bit_at table j)
  unfolding bit_at marked
  marked_bit j =
      ⊎_elim
      (λ (same : i / word_bits ≡ j / word_bits).
      rw (same, get_or-set_same table (j / word_bits) (bit_or (at table (j / word_bits)) (x * 2 ^ (i % word_bits))) 0 (rw same at (word_within (length table) i h)), or_bit _ _ (j % word_bits), power_bit x (i % word_bits) (j % word_bits) small)
      (bits same))
      (λ (other : i / word_bits ≢ j / word_bits).
      rw (get_or-set_other table (i / word_bits) (j / word_bits) (bit_or (at table (i / word_bits)) (x * 2 ^ (i % word_bits))) 0 (λ e. other (sym e)), ne_eqb i j (λ e. other (ap (λ (k : ℕ). k / word_bits) e))))
      (eq_or_ne (i / word_bits) (j / word_bits))
    where
      bits : i / word_bits ≡ j / word_bits → max (at table (j / word_bits) / 2 ^ (j % word_bits) % 2) (cond (eqb (i % word_bits) (j % word_bits)) x 0)
          ≡ cond (eqb i j) (max (at table (j / word_bits) / 2 ^ (j % word_bits) % 2) x) (at table (j / word_bits) / 2 ^ (j % word_bits) % 2)
      bits same =
          ⊎_elim
          (λ e. rw (eq-eqb i j e, eq-eqb (i % word_bits) (j % word_bits) (ap (λ (k : ℕ). k % word_bits) e)))
          (λ (other : i ≢ j).
          rw (ne_eqb i j other, ne_eqb (i % word_bits) (j % word_bits) (λ e. other (sym (div-add-mod i word_bits) ∙ rw (same, e) (div-add-mod j word_bits)))) (omega arith))
          (eq_or_ne i j)
