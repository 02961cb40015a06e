-- The store of cells: five words a cell, so that a list of n words holds n / 5 cells. A word of 0 is nothing, and value + 1 a value.
use Rattle.std.specs.Prelude.{ℕ, zero, suc, ◌+◌, ◌*◌, ◌/◌, Bool, cond, List, ltb, length, get_or, set}
use Rattle.grids.specs.declared.cells.Cell.{Cell}

-- whether the store has a cell i
abbrev pub has_cell : List ℕ → ℕ → Bool
has_cell cells i = ltb i (length cells / 5)

unfoldable pub words_at : List ℕ → ℕ → Cell
words_at cells i = record {
  symbol = get_or cells (i * 5) 0;
  foreground = get_or cells (i * 5 + 1) 0;
  background = get_or cells (i * 5 + 2) 0;
  pattern = get_or cells (i * 5 + 3) 0;
  ink = get_or cells (i * 5 + 4) 0;
}

unfoldable pub put_words : List ℕ → ℕ → Cell → List ℕ
put_words cells i c =
    set (set (set (set (set cells (i * 5) c.symbol) (i * 5 + 1) c.foreground) (i * 5 + 2) c.background) (i * 5 + 3) c.pattern) (i * 5 + 4) c.ink

abbrev pub blank_cell : Cell
blank_cell = record { symbol = 0; foreground = 0; background = 0; pattern = 0; ink = 0 }

-- the cell i; blank past the last
unfoldable pub cell_at : List ℕ → ℕ → Cell
cell_at cells i = cond (has_cell cells i) (words_at cells i) blank_cell

-- the store with its cell i made c; as it was past the last
unfoldable pub put_cell : List ℕ → ℕ → Cell → List ℕ
put_cell cells i c = cond (has_cell cells i) (put_words cells i c) cells

-- the store with f done to its cell i, and to four cells from there on
abbrev pub do_cell : (Cell → Cell) → List ℕ → ℕ → List ℕ
do_cell f cells i = put_cell cells i (f (cell_at cells i))

abbrev pub do_four : (Cell → Cell) → List ℕ → ℕ → List ℕ
do_four f cells i = do_cell f (do_cell f (do_cell f (do_cell f cells i) (i + 1)) (i + 2)) (i + 3)

-- the store with f done to each of its first n cells, one after the other
abbrev pub each_cell : (Cell → Cell) → List ℕ → ℕ → List ℕ
each_cell f cells zero = cells
each_cell f cells (suc k) = put_cell (each_cell f cells k) k (f (cell_at (each_cell f cells k) k))
