-- Little-endian numbers in a list of bytes.
-- Assumes nothing.
use Rattle.std.specs.Prelude.{◌≡◌, List, [], ◌∷◌, ◌++◌, ℕ, zero, suc, ◌+◌, ◌*◌, ◌^◌, ◌/◌, ◌%◌, ◌<◌, length, get_or}

-- "Whole numbers are unsigned and little-endian": the number in the width bytes from place at on
unfoldable pub le : ℕ → List ℕ → ℕ → ℕ
le zero s at = 0
le (suc width) s at = le width s at + 256 ^ width * get_or s (at + width) 0

-- .. and the width bytes that a number is written in
unfoldable pub bytes_of : ℕ → ℕ → List ℕ
bytes_of zero x = []
bytes_of (suc width) x = x % 256 ∷ bytes_of width (x / 256)

-- a number below 256 ^ width that is written, wherever it stands, and read back, is the same number
abbrev pub ReadBack : ℕ → ℕ → List ℕ → List ℕ → Type 0
ReadBack width x front back = x < 256 ^ width → le width (front ++ bytes_of width x ++ back) (length front) ≡ x

-- a list of bytes: each element is below 256, which a list of numbers alone does not say
abbrev pub Bytes : List ℕ → Type 0
Bytes s = (i : ℕ) → get_or s i 0 < 256
