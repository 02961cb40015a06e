-- Every symbol is below 2^21, so that its word fits: by cases on the marker and the tests.
use Prim.Native.Nat.{ℕ, zero, suc, ◌<◌, ◌≤◌, ◌+◌, ◌%◌, ◌^◌}
use mathlib.Core.List.{List, [], ◌∷◌}
use Rattle.std.proofs.lemmas.Bool.Decides.{nat_tests}
use native.Mathlib.Nat.{mod-lt}
use native.Mathlib.Omega.{arith}
use lib.ListN.{get_or}
use Rattle.grids.specs.Symbols.{braille_symbol, quadrant_symbol, sextant_symbol, symbol_of, quadrants}
use Rattle.grids.specs.declared.markers.Marker.{Marker}
use Rattle.grids.specs.declared.markers.Marker.TheVariants.{Braille, Dot, Block, Bar, HalfBlock, Quadrant, Sextant, Custom}

abbrev Low : ℕ → Type 0
Low n = n < 2 ^ 21

pub braille-lt : (pattern : ℕ) → braille_symbol pattern < 2 ^ 21
unfolding braille_symbol
braille-lt pattern = omega arith

-- a number of a list is at most their sum
abbrev sum : List ℕ → ℕ
sum [] = 0
sum (x ∷ xs) = x + sum xs

element-le : (l : List ℕ) (i : ℕ) → get_or l i 0 ≤ sum l
element-le [] i = omega arith
element-le (x ∷ xs) zero = omega arith
element-le (x ∷ xs) (suc i) = omega (arith, element-le xs i)

quadrant-lt : (pattern : ℕ) → quadrant_symbol pattern < 2 ^ 21
unfolding quadrant_symbol
quadrant-lt pattern = omega (arith, element-le quadrants (pattern % 16))

sextant-lt : (pattern : ℕ) → sextant_symbol pattern < 2 ^ 21
unfolding sextant_symbol
sextant-lt pattern = grind (arith, nat_tests)

pub symbol-lt : (marker : Marker) (character pattern : ℕ) → character < 2 ^ 21 → symbol_of marker character pattern < 2 ^ 21
symbol-lt Braille character pattern h = braille-lt pattern
symbol-lt Dot character pattern h = omega arith
symbol-lt Block character pattern h = omega arith
symbol-lt Bar character pattern h = omega arith
symbol-lt HalfBlock character pattern h = omega arith
symbol-lt Quadrant character pattern h = quadrant-lt pattern
symbol-lt Sextant character pattern h = sextant-lt pattern
symbol-lt Custom character pattern h = h

-- with any character, read modulo 2^21
pub read-symbol-lt : (marker : Marker) (character pattern : ℕ) → symbol_of marker (character % 2 ^ 21) pattern < 2 ^ 21
read-symbol-lt marker character pattern = symbol-lt marker (character % 2 ^ 21) pattern (mod-lt character (omega arith))
