-- A column of dots, and how it is filled a cell at a time: document 01, 'FilledLine: from each dot of the walk its column to the dot row of `fill_to_y`', and 'Pattern bits are row by row'.
use Rattle.std.specs.Prelude.{ℕ, zero, suc, ◌+◌, ◌-◌, ◌*◌, ◌/◌, ◌%◌, ◌^◌, cond, List, eqb}
use Rattle.walk.specs.Tabulate.{tabulate}
use Rattle.walk.specs.declared.bresenham.Dot.{Dot}
use Rattle.grids.specs.Painting.{inked_cell, paint_dots}
use Rattle.columns.specs.declared.Strip.{Strip}

-- n dots of a column, from a row on
abbrev pub column_dots : ℕ → ℕ → ℕ → List Dot
column_dots column row n = tabulate n (λ k. record { column = column; row = row + k })

-- the bits of n dots of a column that lie in one Braille cell: each two places above the last, all four together 85
unfoldable pub column_mask : ℕ → ℕ → ℕ → ℕ
column_mask column row n = 85 / 2 ^ (8 - n * 2) * 2 ^ (row % 4 * 2 + column % 2)

-- these bits and this ink set in n cells below one another, from the cell i on
abbrev pub inked_down : ℕ → ℕ → ℕ → List ℕ → ℕ → ℕ → List ℕ
inked_down columns bits word cells i zero = cells
inked_down columns bits word cells i (suc n) = inked_cell (inked_down columns bits word cells i n) (i + n * columns) bits word

-- a column of Braille dots from one row to another: in one cell; or the first cell's, whole cells, and the last cell's
unfoldable pub braille_rows : ℕ → ℕ → List ℕ → ℕ → ℕ → ℕ → List ℕ
braille_rows columns word cells column low high =
    let head = low / 4 * columns + column / 2 in
    let tail = high / 4 * columns + column / 2 in
    cond (eqb (low / 4) (high / 4))
    (inked_cell cells head (column_mask column low (high - low + 1)) word)
    (inked_cell
    (inked_down columns (column_mask column 0 4) word (inked_cell cells head (column_mask column low (4 - low % 4)) word) (head + columns) (high / 4 - low / 4 - 1))
    tail
    (column_mask column 0 (high % 4 + 1))
    word)

-- a column's dots from one row to another painted one after the other
abbrev pub strip_painted : Strip → List ℕ → List ℕ
strip_painted s cells = paint_dots s.grid.marker s.grid.columns s.grid.rows s.word cells (column_dots s.column s.low (s.high + 1 - s.low))
