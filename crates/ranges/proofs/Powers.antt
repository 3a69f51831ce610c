-- A power of 2 above another. Assumes nothing.
use mathlib.Core.Path.{◌≡◌}
use Prim.Native.Nat.{ℕ, suc, ◌+◌, ◌*◌, ◌^◌}
use native.Mathlib.Nat.{mul_assoc, pow-suc}
use lib.Pow.{pow-add}

-- a bit above bit w is an even multiple of 2 ^ w
pub power_split : (b m w : ℕ) → b * 2 ^ (suc m + w) ≡ (b * 2 ^ m * 2) * 2 ^ w
power_split b m w = rw (pow-add 2 (suc m) w, pow-suc 2 m) (simp mul_assoc)
