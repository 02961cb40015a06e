-- Document 01, 'Grids': the symbols, as it lists the Unicode charts. 'A stored pattern is read modulo its table's length.'
use Rattle.std.specs.Prelude.{ℕ, ◌+◌, ◌-◌, ◌*◌, ◌/◌, ◌%◌, ◌^◌, cond, List, [], ◌∷◌, eqb, ltb, get_or}
use Rattle.grids.specs.declared.markers.Marker.{Marker}
use Rattle.grids.specs.declared.markers.Marker.TheVariants.{Braille, Dot, Block, Bar, HalfBlock, Quadrant, Sextant, Custom}
use Rattle.grids.specs.Markers.{dot_columns, dot_rows}

-- the weights of the bits that stand, from bit 0 on
abbrev pub weigh : List ℕ → ℕ → ℕ
weigh [] pattern = 0
weigh (w ∷ ws) pattern = pattern % 2 * w + weigh ws (pattern / 2)

-- 'Braille: 2800 plus, for bits 0 to 7, the weights 1, 8, 2, 16, 4, 32, 64, 128.'
abbrev pub braille_weights : List ℕ
braille_weights = 1 ∷ 8 ∷ 2 ∷ 16 ∷ 4 ∷ 32 ∷ 64 ∷ 128 ∷ []

unfoldable pub braille_symbol : ℕ → ℕ
braille_symbol pattern = 0x2800 + weigh braille_weights pattern

-- 'Quadrant 0 to 15'
abbrev pub quadrants : List ℕ
quadrants =
    0x0020 ∷ 0x2598 ∷ 0x259D ∷ 0x2580 ∷ 0x2596 ∷ 0x258C ∷ 0x259E ∷ 0x259B
    ∷ 0x2597 ∷ 0x259A ∷ 0x2590 ∷ 0x259C ∷ 0x2584 ∷ 0x2599 ∷ 0x259F ∷ 0x2588 ∷ []

unfoldable pub quadrant_symbol : ℕ → ℕ
quadrant_symbol pattern = get_or quadrants (pattern % 16) 0

-- 'Sextant p, 1 to 63: 21 is 258C, 42 is 2590, 63 is 2588; else 1FB00 + p - 1, less 1 above 21, less 1 above 42.'
abbrev pub one_above : ℕ → ℕ → ℕ
one_above n p = cond (ltb n p) 1 0

abbrev pub sextant : ℕ → ℕ
sextant p = cond (eqb p 21) 0x258C (cond (eqb p 42) 0x2590 (cond (eqb p 63) 0x2588 (0x1FB00 + p - 1 - one_above 21 p - one_above 42 p)))

unfoldable pub sextant_symbol : ℕ → ℕ
sextant_symbol pattern = sextant (pattern % 64)

-- as many patterns as a cell's dots have
unfoldable pub pattern_count : Marker → ℕ
pattern_count marker = 2 ^ (dot_columns marker * dot_rows marker)

-- '1 Braille ..., 2 Dot (2022), 3 Block (2588 ...), 4 Bar (2584), ... 6 Quadrant ..., 7 Sextant ..., 8 Custom'. HalfBlock's symbols are not by its pattern
abbrev pub symbol_of : Marker → ℕ → ℕ → ℕ
symbol_of Braille character pattern = braille_symbol pattern
symbol_of Dot character pattern = 0x2022
symbol_of Block character pattern = 0x2588
symbol_of Bar character pattern = 0x2584
symbol_of HalfBlock character pattern = 0x2022
symbol_of Quadrant character pattern = quadrant_symbol pattern
symbol_of Sextant character pattern = sextant_symbol pattern
symbol_of Custom character pattern = character
