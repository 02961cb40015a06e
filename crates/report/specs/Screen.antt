-- The screen that a picture is rendered on, three words a cell: document 01, 'Picture file (ours) and its program'.
use Rattle.std.specs.Prelude.{ℕ, zero, suc, ◌+◌, ◌*◌, ◌/◌, cond, ◌||◌, List, ltb, length, set}
use Rattle.view.specs.Limits.{reset}
use Rattle.form.specs.Fields.{number_at}

-- 'blank (0020, Reset, Reset)': the first n cells
unfoldable pub blanked : List ℕ → ℕ → List ℕ
blanked words zero = words
blanked words (suc k) = set (set (set (blanked words k) (k * 3) 0x20) (k * 3 + 1) reset) (k * 3 + 2) reset

-- every whole cell
unfoldable pub blank_screen : List ℕ → List ℕ
blank_screen words = blanked words (length words / 3)

-- 'Columns and rows (2 bytes each)'
abbrev pub columns_of : List ℕ → ℕ
columns_of file = number_at file 0 2

abbrev pub rows_of : List ℕ → ℕ
rows_of file = number_at file 2 2

-- 'renders on a screen of that size': its words, none for a size above the limits, whose file is refused
unfoldable pub picture_size : List ℕ → ℕ → ℕ → ℕ
picture_size file widest highest = cond (ltb widest (columns_of file) || ltb highest (rows_of file)) 0 (columns_of file * rows_of file * 3)
