-- A column and row of an area that passes no edge is a spot on the screen, and the next column the next spot.
use mathlib.Core.Path.{◌≡◌}
use mathlib.Core.Bool.{false}
use mathlib.Core.List.{List}
use Prim.Native.Nat.{ℕ, ◌+◌, ◌*◌, ◌≤◌, ◌<◌}
use native.Mathlib.Omega.{arith}
use native.Mathlib.Nat.{mul_comm}
use lib.Arith.{digits_lt}
use lib.Dec.{ltb}
use lib.ListN.{length}
use borrow.Author.Tests.{ltb-false, eqb-true, not-false}
use Rattle.std.proofs.lemmas.Bool.{or_parts}
use Rattle.ledger.specs.Calls.{passes_edge, bad_screen}
use Rattle.ledger.specs.Model.{spot}
use Rattle.ledger.specs.declared.screen.Area.{Area}

module _ (columns rows : ℕ) (a : Area) (words : List ℕ) (edge : passes_edge columns rows a ≡ false) (good : bad_screen a words ≡ false) where
  pub spot-in-screen : (column row : ℕ) → column < columns → row < rows → spot a column row * 3 + 3 ≤ length words
  unfolding spot
  spot-in-screen column row h k =
      let right : a.x + columns ≤ a.columns = ltb-false _ _ (or_parts _ _ edge).0 in
      let bottom : a.y + rows ≤ a.rows = ltb-false _ _ (or_parts (ltb a.columns (a.x + columns)) _ edge).1 in
      let n : length words ≡ a.columns * a.rows * 3 = eqb-true _ _ (not-false _ good) in
      let l : (a.y + row) * a.columns + (a.x + column) < a.rows * a.columns = digits_lt (omega arith) (omega arith) in
      omega (arith, mul_comm a.columns a.rows)

-- the spots side by side
pub spot-next : (a : Area) (column row j : ℕ) → spot a column row + j ≡ spot a (column + j) row
unfolding spot
spot-next a column row j = omega arith
