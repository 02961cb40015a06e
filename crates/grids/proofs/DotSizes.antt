-- The dots in a cell: of the markers of one dot a cell, and the bounds of all.
use Prim.Native.Nat.{ℕ, ◌+◌, ◌*◌, ◌/◌, ◌%◌, ◌^◌, ◌≤◌}
use mathlib.Core.Path.{◌≡◌, refl, ap}
use mathlib.Core.Bool.{true}
use native.Mathlib.Omega.{arith}
use Rattle.grids.specs.Markers.{by, dot_size, is_plain}
use Rattle.grids.specs.Dots.{cell_index, bit_of}
use Rattle.grids.specs.Symbols.{pattern_count}
use Rattle.grids.specs.declared.markers.Size.{Size}
use Rattle.grids.specs.declared.markers.Marker.{Marker}
use Rattle.grids.specs.declared.markers.Marker.TheVariants.{Braille, Dot, Block, Bar, HalfBlock, Quadrant, Sextant, Custom}

pub plain_size : (marker : Marker) → is_plain marker ≡ true → dot_size marker ≡ by 1 1
plain_size Braille plain = cc
plain_size Dot plain = refl
plain_size Block plain = refl
plain_size Bar plain = refl
plain_size HalfBlock plain = cc
plain_size Quadrant plain = cc
plain_size Sextant plain = cc
plain_size Custom plain = refl

-- at most 2 across and 4 down
abbrev pub Small : Size → Type 0
Small s = (s.columns ≤ 2) × (s.rows ≤ 4)

pub dot-size-le : (marker : Marker) → Small (dot_size marker)
dot-size-le Braille = (omega arith, omega arith)
dot-size-le Dot = (omega arith, omega arith)
dot-size-le Block = (omega arith, omega arith)
dot-size-le Bar = (omega arith, omega arith)
dot-size-le HalfBlock = (omega arith, omega arith)
dot-size-le Quadrant = (omega arith, omega arith)
dot-size-le Sextant = (omega arith, omega arith)
dot-size-le Custom = (omega arith, omega arith)

-- a cell's index, a dot's bit and the number of patterns, by the dots of a marker
module _ (marker : Marker) {w h : ℕ} (size : dot_size marker ≡ by w h) where
  pub cell-index-by : (columns column row : ℕ) → cell_index marker columns column row ≡ row / h * columns + column / w
  unfolding cell_index
  cell-index-by columns column row = ap (λ (s : Size). row / s.rows * columns + column / s.columns) size

  pub bit-by : (column row : ℕ) → bit_of marker column row ≡ 2 ^ (row % h * w + column % w)
  unfolding bit_of
  bit-by column row = ap (λ (s : Size). 2 ^ (row % s.rows * s.columns + column % s.columns)) size

  pub pattern-count-by : pattern_count marker ≡ 2 ^ (w * h)
  unfolding pattern_count
  pattern-count-by = ap (λ (s : Size). 2 ^ (s.columns * s.rows)) size
