-- Document 01, 'Domain': the limits, each named once.
use Rattle.std.specs.Prelude.{ℕ}

abbrev pub max_columns : ℕ
max_columns = 200

abbrev pub max_rows : ℕ
max_rows = 100

-- draws and dots in a canvas
abbrev pub max_draws : ℕ
max_draws = 65535

-- the painted count, for each draw and dot accepted
abbrev pub max_painted : ℕ
max_painted = 160000

-- pairs in a Points
abbrev pub max_pairs : ℕ
max_pairs = 1000

abbrev pub max_labels : ℕ
max_labels = 64

-- bytes of a label
abbrev pub max_text : ℕ
max_text = 40

-- 'A colour is 0 to 16,777,215 (RGB), or 16,777,216, Reset.'
abbrev pub reset : ℕ
reset = 16777216

-- the words of a cell of the store, of a label of the store, and of a cell of the screen
abbrev pub cell_words : ℕ
cell_words = 5

abbrev pub label_words : ℕ
label_words = 44

abbrev pub screen_words : ℕ
screen_words = 3
