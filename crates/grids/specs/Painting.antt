-- A dot painted into the store, and a list of them.
use Rattle.std.specs.Prelude.{ℕ, suc, ◌+◌, ◌*◌, ◌/◌, ◌%◌, ◌^◌, min, ◌≡◌, cond, List, map, eqb, ltb, length, get_or, set}
use Rattle.std.specs.Int.Bits.{bit_or}
use Rattle.walk.specs.declared.bresenham.Dot.{Dot}
use Rattle.grids.specs.Lists.{foldl}
use Rattle.grids.specs.Markers.{by, dot_size, is_half_block}
use Rattle.grids.specs.Dots.{Inked, cell_index, bit_of}
use Rattle.grids.specs.Cells.{cell_at, put_cell}
use Rattle.grids.specs.declared.markers.Marker.{Marker}
use Rattle.grids.specs.declared.markers.Marker.TheVariants.{Braille, HalfBlock}
use Rattle.grids.specs.declared.cells.Cell.{Cell}

abbrev pub with_grid : Cell → ℕ → ℕ → Cell
with_grid c pattern ink = record { symbol = c.symbol; foreground = c.foreground; background = c.background; pattern = pattern; ink = ink }

-- a cell with a dot painted: a pattern or character grid sets the dot's bit and the ink, HalfBlock the upper or lower half's ink
unfoldable pub painted_cell : Marker → Cell → ℕ → ℕ → ℕ → Cell
painted_cell marker c column row word =
    cond (is_half_block marker)
    (cond (eqb (row % 2) 0) (with_grid c word c.ink) (with_grid c c.pattern word))
    (with_grid c (bit_or c.pattern (bit_of marker column row)) word)

-- 'Pattern and char grids ignore only a flat cell index past the end.'
unfoldable pub paint_of : Marker → ℕ → ℕ → List ℕ → ℕ → ℕ → ℕ → List ℕ
paint_of marker columns rows cells column row word =
    cond (ltb (cell_index marker columns column row) (columns * rows))
    (put_cell cells (cell_index marker columns column row) (painted_cell marker (cell_at cells (cell_index marker columns column row)) column row word))
    cells

-- dots of one ink, by its word
abbrev pub paint_dots : Marker → ℕ → ℕ → ℕ → List ℕ → List Dot → List ℕ
paint_dots marker columns rows word cells dots = foldl (λ s d. paint_of marker columns rows s d.column d.row word) cells dots

-- dots with their own inks
abbrev pub inked : ℕ → List Dot → List Inked
inked ink dots = map (λ d. record { column = d.column; row = d.row; ink = ink }) dots

abbrev pub paint_inked : Marker → ℕ → ℕ → List ℕ → List Inked → List ℕ
paint_inked marker columns rows cells dots = foldl (λ s d. paint_of marker columns rows s d.column d.row (suc d.ink)) cells dots

-- ---- the same by the two words of the grid, which a dot of any grid but HalfBlock changes
-- the store with these bits added to the pattern of its cell i, and the cell's ink set
unfoldable pub inked_cell : List ℕ → ℕ → ℕ → ℕ → List ℕ
inked_cell cells i bits word = put_cell cells i (with_grid (cell_at cells i) (bit_or (cell_at cells i).pattern bits) word)

-- that cell's words alone; words that are not those of one cell stay
unfoldable pub inked_words : List ℕ → ℕ → ℕ → List ℕ
inked_words ws bits word = cond (eqb (length ws) 5) (set (set ws 3 (bit_or (get_or ws 3 0) bits)) 4 word) ws

-- ---- the same in a loop over dots, with what the loop does not change computed before it
-- how many of a canvas' cells the store has
abbrev pub cells_held : List ℕ → ℕ → ℕ → ℕ
cells_held cells columns rows = min (columns * rows) (length cells / 5)

-- the bit and ink of a dot in the cell i, where that is one of the first `end`
unfoldable pub dot_set : List ℕ → ℕ → ℕ → ℕ → ℕ → List ℕ
dot_set cells end i bit word = cond (ltb i end) (inked_cell cells i bit word) cells

-- 'Braille 2 by 4 dots', and '1 by 1 dots for markers 2, 3, 4 and 8'
abbrev pub braille_dot : ℕ → ℕ → List ℕ → ℕ → ℕ → ℕ → List ℕ
braille_dot columns end cells column row word = dot_set cells end (row / 4 * columns + column / 2) (2 ^ (row % 4 * 2 + column % 2)) word

abbrev pub plain_dot : ℕ → ℕ → List ℕ → ℕ → ℕ → ℕ → List ℕ
plain_dot columns end cells column row word = dot_set cells end (row * columns + column) 1 word

-- 'HalfBlock 1 by 2': the ink of a dot's half
unfoldable pub half_dot : ℕ → ℕ → List ℕ → ℕ → ℕ → ℕ → List ℕ
half_dot columns end cells column row word =
    cond (ltb (row / 2 * columns + column) (min end (length cells / 5))) (set cells ((row / 2 * columns + column) * 5 + 3 + row % 2) word) cells

-- Where `end` is the number of cells held, they paint what `paint_of` does.
abbrev pub BraillePaints : Type 0
BraillePaints = (columns rows : ℕ) (cells : List ℕ) (column row word end : ℕ) → end ≡ cells_held cells columns rows
    → braille_dot columns end cells column row word ≡ paint_of Braille columns rows cells column row word

abbrev pub PlainPaints : Type 0
PlainPaints = (marker : Marker) → dot_size marker ≡ by 1 1 → (columns rows : ℕ) (cells : List ℕ) (column row word end : ℕ) → end ≡ cells_held cells columns rows
    → plain_dot columns end cells column row word ≡ paint_of marker columns rows cells column row word

abbrev pub HalfPaints : Type 0
HalfPaints = (columns rows : ℕ) (cells : List ℕ) (column row word end : ℕ) → end ≡ cells_held cells columns rows
    → half_dot columns end cells column row word ≡ paint_of HalfBlock columns rows cells column row word
