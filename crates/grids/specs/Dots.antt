-- What a layer's dots set in a cell: document 01, 'Grids' and 'The ledger'. A dot's ink is its colour.
use Rattle.std.specs.Prelude.{ℕ, suc, ◌+◌, ◌*◌, ◌/◌, ◌%◌, ◌^◌, Bool, cond, not, List, [], ◌∷◌, eqb}
use Rattle.std.specs.Int.Bits.{bit_or}
use Rattle.grids.specs.Lists.{keep, last_word}
use Rattle.grids.specs.Markers.{dot_columns, dot_rows, is_half_block, is_block}
use Rattle.grids.specs.Symbols.{symbol_of}
use Rattle.grids.specs.declared.markers.Marker.{Marker}
use Rattle.grids.specs.declared.layer.LayerCell.{LayerCell}

pub record Inked : Type 0 where
  pub column : ℕ
  pub row : ℕ
  pub ink : ℕ

-- 'A dot falls in the cell of flat index floor(row / dot rows) × columns + floor(column / dot columns)'
unfoldable pub cell_index : Marker → ℕ → ℕ → ℕ → ℕ
cell_index marker columns column row = row / dot_rows marker * columns + column / dot_columns marker

abbrev pub in_cell : Marker → ℕ → ℕ → List Inked → List Inked
in_cell marker columns i dots = keep (λ d. eqb (cell_index marker columns d.column d.row) i) dots

-- 'inside that cell the two remainders are its row and column'; 'Pattern bits are row by row'
unfoldable pub bit_of : Marker → ℕ → ℕ → ℕ
bit_of marker column row = 2 ^ (row % dot_rows marker * dot_columns marker + column % dot_columns marker)

-- the bits of all the dots together
abbrev pub pattern_of : Marker → List Inked → ℕ
pattern_of marker [] = 0
pattern_of marker (d ∷ dots) = bit_or (bit_of marker d.column d.row) (pattern_of marker dots)

-- the last one's ink, as a word
abbrev pub last_ink : List Inked → ℕ
last_ink dots = last_word (λ d. suc d.ink) dots

abbrev pub is_upper : Inked → Bool
is_upper d = eqb (d.row % 2) 0

abbrev pub is_lower : Inked → Bool
is_lower d = not (is_upper d)

-- a layer sets nothing
abbrev pub sets_nothing : LayerCell
sets_nothing = record { symbol = 0; foreground = 0; background = 0 }

-- 'HalfBlock: lower only 2584, upper only 2580, both equal 2588 with both colours, both different 2580 with background lower', by the words of the two halves
unfoldable pub half_block_cell : ℕ → ℕ → LayerCell
half_block_cell upper lower =
    cond (eqb upper 0)
    (cond (eqb lower 0) sets_nothing (record { symbol = suc 0x2584; foreground = lower; background = 0 }))
    (cond (eqb lower 0) (record { symbol = suc 0x2580; foreground = upper; background = 0 })
    (cond (eqb upper lower) (record { symbol = suc 0x2588; foreground = upper; background = lower }) (record { symbol = suc 0x2580; foreground = upper; background = lower })))

-- 'the symbol its grid gives them, the last one's colour as foreground and, with Block, as background'
abbrev pub grid_cell : Marker → ℕ → ℕ → ℕ → LayerCell
grid_cell marker character pattern ink = record { symbol = suc (symbol_of marker character pattern); foreground = ink; background = cond (is_block marker) ink 0 }

-- 'A layer sets nothing in a cell without its dots.' Otherwise by the dots in it; 'HalfBlock goes by the last dot of each half'
unfoldable pub set_by : Marker → ℕ → List Inked → LayerCell
set_by marker character [] = sets_nothing
set_by marker character (d ∷ dots) =
    cond (is_half_block marker)
    (half_block_cell (last_ink (keep is_upper (d ∷ dots))) (last_ink (keep is_lower (d ∷ dots))))
    (grid_cell marker character (pattern_of marker (d ∷ dots)) (last_ink (d ∷ dots)))

-- what a layer of these dots sets in the cell i
abbrev pub layer_sets : Marker → ℕ → ℕ → List Inked → ℕ → LayerCell
layer_sets marker character columns dots i = set_by marker character (in_cell marker columns i dots)
