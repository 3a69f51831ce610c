-- The bytes of a number of at most four bytes, place by place. Assumes nothing.
use Rattle.std.proofs.Common.{◌≡◌, refl, ◌∙◌, arith, ℕ, zero, suc, ◌+◌, ◌*◌, ◌^◌, ◌/◌, ◌%◌, ◌<◌, List, [], ◌∷◌, ◌++◌}
use Rattle.std.proofs.Common.{get_or, length, add-one}
use Rattle.std.proofs.Math.ListN.{set}
use Rattle.lent.specs.Inner.Overwrite.{overwrite}
use Rattle.lent.proofs.Overwrite.{length_overwrite, overwrite_one, overwrite_more}
use Rattle.bytes_le.specs.Little.{le, bytes_of, Bytes}
use Rattle.bytes_le.proofs.Little.{number_below_lem, length_bytes}

-- a byte at place k, shifted to its worth
pub shifted : (k b : ℕ) → k < 4 → b < 256 → b * 2 ^ (8 * k) % 4294967296 ≡ 256 ^ k * b
shifted zero b h l = omega arith
shifted (suc zero) b h l = omega arith
shifted (suc (suc zero)) b h l = omega arith
shifted (suc (suc (suc zero))) b h l = omega arith
shifted (suc (suc (suc (suc k)))) b h l = absurd (omega arith)

-- .. and the byte of a number at place k behind those before it
pub next_byte : (k x : ℕ) → k < 4 → bytes_of (suc k) x ≡ bytes_of k x ++ (x / 2 ^ (8 * k) % 256) ∷ []
unfolding bytes_of
next_byte zero x h = let e : x / 1 % 256 ≡ x % 256 = omega arith in rw e
next_byte (suc zero) x h = refl
next_byte (suc (suc zero)) x h = let e : x / 65536 % 256 ≡ x / 256 / 256 % 256 = omega arith in rw e
next_byte (suc (suc (suc zero))) x h = let e : x / 16777216 % 256 ≡ x / 256 / 256 / 256 % 256 = omega arith in rw e
next_byte (suc (suc (suc (suc k)))) x h = absurd (omega arith)

-- the bytes of a number up to place k, and the one at it stored behind them
pub stored_next : (k x at : ℕ) (lent : List ℕ) → k < 4 → at + k < length lent
    → set (overwrite at (bytes_of k x) lent) (at + k) (x / 2 ^ (8 * k) % 256) ≡ overwrite at (bytes_of (k + 1) x) lent
stored_next k x at lent few room =
    let byte = x / 2 ^ (8 * k) % 256 in
    let front = length_bytes k x in
    let long = length_overwrite at lent (bytes_of k x) (omega (arith, front)) in
    overwrite_one (at + k) _ byte (omega (arith, long))
    ∙ (rw front at (overwrite_more at lent (bytes_of k x) (byte ∷ []) (omega arith)))
    ∙ rw (add-one, next_byte k x few)

-- the number in the bytes up to place k, with the byte at it
pub read_next : (k at : ℕ) (s : List ℕ) → k < 4 → get_or s (at + k) 0 < 256 → le (k + 1) s at ≡ le k s at + get_or s (at + k) 0 * 2 ^ (8 * k) % 4294967296
unfolding le
read_next k at s few byte = rw (add-one, shifted k (get_or s (at + k) 0) few byte)

-- .. and any byte at place k, with a number of the places before it, fits 32 bits
pub byte_fits : (k number b : ℕ) → k < 4 → number < 256 ^ k → b < 256 → number + b * 2 ^ (8 * k) % 4294967296 < 4294967296
byte_fits zero number b h low byte = omega (arith, shifted 0 b (omega arith) byte)
byte_fits (suc zero) number b h low byte = omega (arith, shifted 1 b (omega arith) byte)
byte_fits (suc (suc zero)) number b h low byte = omega (arith, shifted 2 b (omega arith) byte)
byte_fits (suc (suc (suc zero))) number b h low byte = omega (arith, shifted 3 b (omega arith) byte)
byte_fits (suc (suc (suc (suc k)))) number b h low byte = absurd (omega arith)

-- .. so the number with that byte does
pub read_fits : (k at : ℕ) (s : List ℕ) → k < 4 → Bytes s → le (suc k) s at < 4294967296
unfolding le
read_fits k at s few bytes =
    let byte = bytes (at + k) in
    rw (shifted k (get_or s (at + k) 0) few byte) at (byte_fits k (le k s at) (get_or s (at + k) 0) few (number_below_lem k s at bytes) byte)
