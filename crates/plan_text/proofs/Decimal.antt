-- The digits of a number, put one before the other from the end of the bytes on.
-- Assumes nothing.
use mathlib.Core.Path.{◌≡◌, sym, ◌∙◌}
use mathlib.Core.List.{List, [], ◌∷◌, ◌++◌, append_assoc, append-nil}
use Prim.Native.Nat.{ℕ, zero, suc, ◌+◌, ◌-◌, ◌^◌, ◌/◌, ◌%◌, ◌<◌, ◌≤◌}
use native.Mathlib.Nat.{pow-suc}
use native.Mathlib.Numerals.{add-one}
use native.Mathlib.Omega.{arith}
use borrow.Author.Tests.{lt-ltb, le-ltb}
use lib.ListN.{length, drop, set, drop_of_length-le}
use Rattle.std.proofs.lemmas.List.{drop-set}
use Rattle.plan_text.specs.Text.{spelled, decimal}

-- a number of one digit, and of more: the last digit stands before what follows the number
spelled_last : (k n : ℕ) (after : List ℕ) → n < 10 → spelled (suc k) n ++ after ≡ (48 + n) ∷ after
unfolding spelled
spelled_last k n after h = rw (lt-ltb n 10 h)

spelled_more : (k n : ℕ) (after : List ℕ) → 10 ≤ n → spelled (suc k) n ++ after ≡ spelled k (n / 10) ++ ((48 + n % 10) ∷ after)
unfolding spelled
spelled_more k n after h = rw (le-ltb n 10 h) (append_assoc (spelled k (n / 10)) ((48 + n % 10) ∷ []) after)

-- what the bytes from a place on lack of a text: the digits of a number that has no more than there are places before
pub record Lacks (digits : List ℕ) (from rest : ℕ) (text : List ℕ) : Type 0 where
  pub some : 0 < from
  pub fits : rest < 10 ^ from
  pub whole : spelled from rest ++ drop from digits ≡ text

-- all of the number, at first
pub lacks_all : (digits : List ℕ) (n : ℕ) → length digits ≡ 20 → n < 18446744073709551616 → Lacks digits 20 n (decimal n)
unfolding decimal
lacks_all digits n long h = record {
  some = omega arith;
  fits = omega arith;
  whole = let end : length digits ≤ 20 = omega arith in rw (drop_of_length-le digits end) (append-nil (spelled 20 n));
}

-- the last digit is put, and others are left
pub lacks_fewer : (digits : List ℕ) (from rest : ℕ) (text : List ℕ) → from ≤ length digits → 10 ≤ rest → Lacks digits from rest text
    → Lacks (set digits (from - 1) (48 + rest % 10)) (from - 1) (rest / 10) text
lacks_fewer digits zero rest text inside more h = absurd (omega (arith, h.some))
lacks_fewer digits (suc zero) rest text inside more h = absurd (omega (arith, h.fits))
lacks_fewer digits (suc (suc k)) rest text inside more h =
    let one : suc (suc k) - 1 ≡ suc k = omega arith in
    let power = pow-suc 10 (suc k) in
    rw one record {
      some = omega arith;
      fits = omega (arith, h.fits);
      whole = rw (drop-set digits (suc k) (48 + rest % 10) (omega arith), add-one) (sym (spelled_more (suc k) rest (drop (suc (suc k)) digits) more) ∙ h.whole);
    }

-- the first digit is put
pub lacks_none : (digits : List ℕ) (from rest : ℕ) (text : List ℕ) → from ≤ length digits → rest < 10 → Lacks digits from rest text
    → drop (from - 1) (set digits (from - 1) (48 + rest % 10)) ≡ text
lacks_none digits zero rest text inside last h = absurd (omega (arith, h.some))
lacks_none digits (suc k) rest text inside last h =
    let one : suc k - 1 ≡ k = omega arith in
    let digit : rest % 10 ≡ rest = omega arith in
    rw (one, digit, drop-set digits k (48 + rest) (omega arith), add-one) (sym (spelled_last k rest (drop (suc k) digits) last) ∙ h.whole)
