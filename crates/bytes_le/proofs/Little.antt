-- Laws of little-endian numbers, over the width. Assumes nothing.
use mathlib.Core.Path.{◌≡◌, refl, ◌∙◌, ap}
use mathlib.Core.List.{List, [], ◌∷◌, ◌++◌, append-nil, append_assoc}
use Prim.Native.Nat.{ℕ, zero, suc, ◌+◌, ◌*◌, ◌^◌, ◌/◌, ◌%◌, ◌<◌, ◌≤◌}
use native.Mathlib.Nat.{add-zero, mul_assoc, pow-suc, pow-zero, mul_comm, mul-le-mul_left}
use native.Mathlib.Numerals.{add-one}
use native.Mathlib.Omega.{arith}
use lib.ListN.{length, take, drop, get_or, get_or-append}
use lib.Seq.{get_or-append-add, drop-cons}
use Rattle.ranges.specs.Fold.{join_below}
use Rattle.bytes_le.specs.Little.{le, bytes_of, ReadBack, Bytes}

-- the lowest byte, and the number in those above it
le_low : (width : ℕ) (s : List ℕ) (at : ℕ) → le (suc width) s at ≡ get_or s at 0 + 256 * le width s (at + 1)
unfolding le
le_low zero s at = simp add-zero (omega arith)
le_low (suc width) s at =
    let low = le_low width s at in
    let place : at + suc width ≡ at + 1 + width = omega arith in
    let byte = get_or s (at + 1 + width) 0 in
    let power : 256 ^ (suc width) * byte ≡ 256 * (256 ^ width * byte) = rw (pow-suc 256 width, mul_comm (256 ^ width) 256) (mul_assoc 256 (256 ^ width) byte) in
    rw place (omega arith)

-- ---- a number in a part
pub le_front : (width : ℕ) (a b : List ℕ) (at : ℕ) → at + width ≤ length a → le width (a ++ b) at ≡ le width a at
unfolding le
le_front zero a b at h = refl
le_front (suc width) a b at h = rw (le_front width a b at (omega arith), get_or-append a b 0 (at + width) (omega arith))

pub le_behind : (width : ℕ) (a b : List ℕ) (at : ℕ) → le width (a ++ b) (length a + at) ≡ le width b at
unfolding le
le_behind zero a b at = refl
le_behind (suc width) a b at =
    let place : length a + at + width ≡ length a + (at + width) = omega arith in rw (le_behind width a b at, place, get_or-append-add a b (at + width) 0)

-- ---- a number written
-- the number in one byte is that byte
pub byte_at : (s : List ℕ) (at : ℕ) → get_or s at 0 ≡ le 1 s at
unfolding le
byte_at s at = simp add-zero (omega arith)

pub length_bytes : (width x : ℕ) → length (bytes_of width x) ≡ width
unfolding bytes_of
length_bytes zero x = refl
length_bytes (suc width) x = ap suc (length_bytes width (x / 256))

pub bytes_bytes : (width x : ℕ) → Bytes (bytes_of width x)
unfolding bytes_of
bytes_bytes zero x i = omega arith
bytes_bytes (suc width) x zero = omega arith
bytes_bytes (suc width) x (suc i) = bytes_bytes width (x / 256) i

-- a number that has no more bytes than are written is read back
first_read : (width x : ℕ) (rest : List ℕ) → x < 256 ^ width → le width (bytes_of width x ++ rest) 0 ≡ x
unfolding bytes_of le
first_read zero x rest h = let one = pow-zero 256 in omega arith
first_read (suc width) x rest h =
    let power = pow-suc 256 width in
    let above = first_read width (x / 256) rest (omega arith) in
    let all = x % 256 ∷ (bytes_of width (x / 256) ++ rest) in
    let behind : le width all 1 ≡ le width (bytes_of width (x / 256) ++ rest) 0 = le_behind width (x % 256 ∷ []) (bytes_of width (x / 256) ++ rest) 0 in
    let low : le (suc width) all 0 ≡ x % 256 + 256 * le width all 1 = le_low width all 0 in
    low ∙ rw (behind, above) (omega arith)

pub read_back : (width x : ℕ) (front back : List ℕ) → ReadBack width x front back
read_back width x front back h =
    rw (append_assoc front (bytes_of width x) back) ((rw add-zero at (le_behind width front (bytes_of width x ++ back) 0)) ∙ first_read width x back h)

-- .. where it stands last
pub last_read : (width x : ℕ) (front : List ℕ) (at : ℕ) → length front ≡ at → x < 256 ^ width → le width (front ++ bytes_of width x) at ≡ x
last_read width x front at e h = rw (append-nil, e) at (read_back width x front [] h)

-- a number that is read of bytes is below 256 ^ width
pub number_below_lem : (width : ℕ) (s : List ℕ) (at : ℕ) → Bytes s → le width s at < 256 ^ width
unfolding le
number_below_lem zero s at all = let one = pow-zero 256 in omega arith
number_below_lem (suc width) s at all =
    let below = number_below_lem width s at all in
    let byte = all (at + width) in
    let power = pow-suc 256 width in
    let most : 256 ^ width * get_or s (at + width) 0 ≤ 256 ^ width * 255 = mul-le-mul_left (256 ^ width) (omega arith) in
    omega arith

-- bytes that are read are written back
pub read_bytes : (width : ℕ) (s : List ℕ) (at : ℕ) → Bytes s → at + width ≤ length s → bytes_of width (le width s at) ≡ take width (drop at s)
unfolding bytes_of
read_bytes zero s at all h = refl
read_bytes (suc width) s at all h =
    let low = le_low width s at in
    let byte = all at in
    let first : le (suc width) s at % 256 ≡ get_or s at 0 = omega arith in
    let above : le (suc width) s at / 256 ≡ le width s (at + 1) = omega arith in
    rw (drop-cons s at 0 (omega arith), first, above, read_bytes width s (at + 1) all (omega arith), add-one)

-- ---- lists of bytes
pub bytes_append : (a b : List ℕ) → Bytes a → Bytes b → Bytes (a ++ b)
bytes_append [] b all others i = others i
bytes_append (x ∷ a) b all others zero = all 0
bytes_append (x ∷ a) b all others (suc i) = bytes_append a b (λ j. all (suc j)) others i

pub bytes_join : (f : ℕ → List ℕ) (n : ℕ) → ((k : ℕ) → k < n → Bytes (f k)) → Bytes (join_below f n)
unfolding join_below
bytes_join f zero all i = omega arith
bytes_join f (suc n) all i = bytes_append (join_below f n) (f n) (bytes_join f n (λ k h. all k (omega arith))) (all n (omega arith)) i
