-- What the grid's words set in a cell, and the grid laid over the picture, cleared, or the store blanked.
use Rattle.std.specs.Prelude.{ℕ, ◌%◌, Bool, cond, ◌&&◌, List, eqb}
use Rattle.grids.specs.Lists.{over}
use Rattle.grids.specs.Markers.{is_half_block}
use Rattle.grids.specs.Symbols.{pattern_count}
use Rattle.grids.specs.Dots.{sets_nothing, half_block_cell, grid_cell}
use Rattle.grids.specs.Cells.{blank_cell, each_cell}
use Rattle.grids.specs.Painting.{with_grid}
use Rattle.grids.specs.declared.markers.Marker.{Marker}
use Rattle.grids.specs.declared.cells.Cell.{Cell}
use Rattle.grids.specs.declared.layer.LayerCell.{LayerCell}

-- 'pattern 0 sets nothing'; 'A stored pattern is read modulo its table's length'
abbrev pub pattern_sets : Marker → ℕ → ℕ → ℕ → LayerCell
pattern_sets marker character pattern ink = cond (eqb pattern 0) sets_nothing (grid_cell marker character pattern ink)

unfoldable pub layer_cell : Marker → ℕ → Cell → LayerCell
layer_cell marker character c =
    cond (is_half_block marker) (half_block_cell c.pattern c.ink) (pattern_sets marker character (c.pattern % pattern_count marker) c.ink)

-- a layer's cell laid over the composed picture
abbrev pub laid_over : LayerCell → Cell → Cell
laid_over l c = record {
  symbol = over l.symbol c.symbol;
  foreground = over l.foreground c.foreground;
  background = over l.background c.background;
  pattern = c.pattern;
  ink = c.ink;
}

unfoldable pub saved_cell : Marker → ℕ → Cell → Cell
saved_cell marker character c = laid_over (layer_cell marker character c) c

abbrev pub cleared_cell : Cell → Cell
cleared_cell c = with_grid c 0 0

-- both: 'Each saving clears the grid'
abbrev pub merged_cell : Marker → ℕ → Cell → Cell
merged_cell marker character c = cleared_cell (saved_cell marker character c)

-- the grid holds nothing
abbrev pub is_bare : Cell → Bool
is_bare c = eqb c.pattern 0 && eqb c.ink 0

-- the first n cells
abbrev pub save_of : Marker → ℕ → List ℕ → ℕ → List ℕ
save_of marker character cells n = each_cell (saved_cell marker character) cells n

abbrev pub reset_of : List ℕ → ℕ → List ℕ
reset_of cells n = each_cell cleared_cell cells n

abbrev pub blank_of : List ℕ → ℕ → List ℕ
blank_of cells n = each_cell (λ c. blank_cell) cells n
