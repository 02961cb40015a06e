-- Document 01, 'Grids': the markers by number, and their dots in a cell.
use Rattle.std.specs.Prelude.{ℕ, ◌*◌, Bool, true, false, cond, ◌&&◌, ◌||◌, eqb, ltb, leb}
use Rattle.grids.specs.declared.markers.Marker.{Marker}
use Rattle.grids.specs.declared.markers.Marker.TheVariants.{Braille, Dot, Block, Bar, HalfBlock, Quadrant, Sextant, Custom}
use Rattle.grids.specs.declared.markers.Size.{Size}

abbrev pub by : ℕ → ℕ → Size
by columns rows = record { columns = columns; rows = rows }

-- '1 Braille, 2 Dot, 3 Block, 4 Bar, 5 HalfBlock, 6 Quadrant, 7 Sextant, 8 Custom'. A number that is no marker counts as Dot, as in the Rust
unfoldable pub marker_of : ℕ → Marker
marker_of number =
    cond (eqb number 1) Braille (cond (eqb number 3) Block (cond (eqb number 4) Bar (cond (eqb number 5) HalfBlock
    (cond (eqb number 6) Quadrant (cond (eqb number 7) Sextant (cond (eqb number 8) Custom Dot))))))

-- 'Braille 2 by 4 dots, ... HalfBlock 1 by 2, Quadrant 2 by 2, Sextant 2 by 3', '1 by 1 dots for markers 2, 3, 4 and 8'
abbrev pub dot_size : Marker → Size
dot_size Braille = by 2 4
dot_size Dot = by 1 1
dot_size Block = by 1 1
dot_size Bar = by 1 1
dot_size HalfBlock = by 1 2
dot_size Quadrant = by 2 2
dot_size Sextant = by 2 3
dot_size Custom = by 1 1

abbrev pub dot_columns : Marker → ℕ
dot_columns marker = (dot_size marker).columns

abbrev pub dot_rows : Marker → ℕ
dot_rows marker = (dot_size marker).rows

-- whether its cells are of one dot
abbrev pub is_plain : Marker → Bool
is_plain Braille = false
is_plain Dot = true
is_plain Block = true
is_plain Bar = true
is_plain HalfBlock = false
is_plain Quadrant = false
is_plain Sextant = false
is_plain Custom = true

-- the resolution of a grid of cells, in dots
abbrev pub resolution_of : Marker → ℕ → ℕ → Size
resolution_of marker columns rows = by (columns * dot_columns marker) (rows * dot_rows marker)

-- a Unicode scalar value: not above 10FFFF, and no surrogate, D800 to DFFF
abbrev pub is_scalar : ℕ → Bool
is_scalar c = ltb c 0xD800 || (leb 0xE000 c && ltb c 0x110000)

-- '4 marker not 1 to 8, or 8 with no scalar value'
unfoldable pub is_marker : ℕ → ℕ → Bool
is_marker marker character = cond (eqb marker 8) (is_scalar character) (leb 1 marker && ltb marker 8)

-- HalfBlock, and Block, which sets the background too
abbrev pub is_half_block : Marker → Bool
is_half_block Braille = false
is_half_block Dot = false
is_half_block Block = false
is_half_block Bar = false
is_half_block HalfBlock = true
is_half_block Quadrant = false
is_half_block Sextant = false
is_half_block Custom = false

abbrev pub is_block : Marker → Bool
is_block Braille = false
is_block Dot = false
is_block Block = true
is_block Bar = false
is_block HalfBlock = false
is_block Quadrant = false
is_block Sextant = false
is_block Custom = false
