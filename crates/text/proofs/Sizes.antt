-- Sizes of 16 bits: their product is below 2^32.
use Prim.Native.Nat.{ℕ, zero, suc, ◌-◌, ◌*◌, ◌^◌, ◌<◌}
use native.Mathlib.Nat.{mul-le-mul, zero-mul}
use native.Mathlib.Omega.{arith}

pub product-below : (a b : ℕ) → a < 2 ^ 16 → b < 2 ^ 16 → a * b < 2 ^ 32
product-below a b ha hb = omega (arith, mul-le-mul {n₁ = a} {m₁ = b} {n₂ = 2 ^ 16 - 1} {m₂ = 2 ^ 16 - 1} (omega arith) (omega arith))

-- where there is a cell there is a column
pub has-columns : (columns rows k : ℕ) → k < columns * rows → 0 < columns
has-columns zero rows k h = omega (arith, zero-mul rows)
has-columns (suc columns) rows k h = omega arith
