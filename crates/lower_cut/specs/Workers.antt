-- The workers word of document 01, "Vector and cuts".
-- Assumes nothing.
use Rattle.std.specs.Prelude.{cond, List, ℕ, ◌^◌, ltb}
use Rattle.ranges.specs.Fold.{sum_below}
use Rattle.lent.specs.Lent.{at}

-- "bit w set exactly when cut w is above 0"
unfoldable pub bit_of : List ℕ → ℕ → ℕ
bit_of cut w = cond (ltb 0 (at cut w)) (2 ^ w) 0

-- the word of the first n workers
unfoldable pub workers_word : List ℕ → ℕ → ℕ
workers_word cut n = sum_below (bit_of cut) n
