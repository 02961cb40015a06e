-- What the tests made once for a column say, and what the functions that fill columns cite.
use mathlib.Core.Path.{◌≡◌, ap}
use mathlib.Core.Bool.{true, ◌&&◌}
use Prim.Native.Nat.{ℕ, ◌+◌, ◌-◌, ◌*◌, ◌/◌, ◌≤◌, ◌<◌}
use native.Mathlib.Omega.{arith}
use lib.Dec.{ltb, leb}
use lib.Pow.{shl_exact, shr_le}
use Rattle.std.proofs.lemmas.Bool.Decides.{nat_tests}
use Rattle.columns.proofs.ColumnMasks.{braille-rows, char-rows}

-- the tests made once for a column
pub held : (i n l : ℕ) → (ltb i n && leb (n * 5) l) ≡ true → (i < n) × (i < l / 5)
held i n l e = (grind (arith, nat_tests), grind (arith, nat_tests))

-- the cells of a column of characters
pub span : (low high columns column l : ℕ) → low ≤ high → high * columns + column < l → low * columns + column + (high - low + 1) * columns < l + columns
span low high columns column l le h =
    let e : high * columns ≡ (low + (high - low)) * columns = ap (λ (q : ℕ). q * columns) (omega arith) in
    omega arith

-- for the functions that fill a column
pub ruleset filling = (held, span, braille-rows, char-rows)

-- for `column_mask`: 85 has seven bits, and they stay within eight, so no bit is lost
pub ruleset masks = (shl_exact, shr_le)
