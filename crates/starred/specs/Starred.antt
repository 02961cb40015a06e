-- Document 01, 'Bench samples': 'Those starred are proved together, as one statement over a list of samples'.
use Rattle.std.specs.Prelude.{◌≡◌, List, [], ◌∷◌, ℕ, Float, Option, Some, None}
use Rattle.floats.specs.Arithmetic.{bits}
use Rattle.walk.specs.declared.bresenham.Ends.{Ends}
use Rattle.walk.specs.declared.bresenham.Dot.{Dot}
use Rattle.walk.specs.Line.{line_dots}
use Rattle.walk.specs.declared.clip.Bounds.{Bounds}
use Rattle.grids.specs.declared.markers.Marker.{Marker}
use Rattle.grids.specs.declared.markers.Marker.TheVariants.{Braille, Quadrant, Sextant}
use Rattle.grids.specs.Symbols.{symbol_of}
use Rattle.view.specs.Point.{point_of, view_of}

abbrev pub ends : ℕ → ℕ → ℕ → ℕ → Ends
ends x1 y1 x2 y2 = record { x1 = x1; y1 = y1; x2 = x2; y2 = y2 }

abbrev pub dot : ℕ → ℕ → Dot
dot column row = record { column = column; row = row }

abbrev pub 0·0 : Float
0·0 = bits 0

abbrev pub 1·0 : Float
1·0 = bits 0x3FF0_0000_0000_0000

abbrev pub 1·5 : Float
1·5 = bits 0x3FF8_0000_0000_0000

abbrev pub 2·0 : Float
2·0 = bits 0x4000_0000_0000_0000

-- 'bounds 1 to 2 and 0 to 2'
abbrev pub bounds : Bounds
bounds = record { left = 1·0; right = 2·0; bottom = 0·0; top = 2·0 }

-- a point on 2 by 2 Braille and its dot; a line and its dots; a marker's pattern and its symbol
pub data Sample : Type 0 where
  point : Float → Float → Option (ℕ × ℕ) → Sample
  line : Ends → List Dot → Sample
  symbol : Marker → ℕ → ℕ → Sample

abbrev pub Holds : Sample → Type 0
Holds (point x y found) = point_of (view_of bounds 2 2 Braille) x y ≡ found
Holds (line e dots) = line_dots e ≡ dots
Holds (symbol marker pattern scalar) = symbol_of marker 0x20 pattern ≡ scalar

abbrev pub AllHold : List Sample → Type 0
AllHold [] = Unit
AllHold (s ∷ rest) = Holds s × AllHold rest

abbrev pub starred : List Sample
starred =
    -- '2 by 2 Braille, bounds 1 to 2 and 0 to 2: (1, 0) dot (0, 7); (1.5, 1) dot (2, 4); (0, 0) none; (2, 2) dot (3, 0); (1, 2) dot (0, 0).'
    point 1·0 0·0 (Some (0, 7))
    ∷ point 1·5 1·0 (Some (2, 4))
    ∷ point 0·0 0·0 None
    ∷ point 2·0 2·0 (Some (3, 0))
    ∷ point 1·0 2·0 (Some (0, 0))
    -- '(0,0) to (4,2): rows 0 0 1 1 2; (4,0) to (0,2): columns from 0, rows 2 2 1 1 0.'
    ∷ line (ends 0 0 4 2) (dot 0 0 ∷ dot 1 0 ∷ dot 2 1 ∷ dot 3 1 ∷ dot 4 2 ∷ [])
    ∷ line (ends 4 0 0 2) (dot 0 2 ∷ dot 1 2 ∷ dot 2 1 ∷ dot 3 1 ∷ dot 4 0 ∷ [])
    -- 'Braille 129 is 2881; sextant 21 is 258C, 22 is 1FB14; quadrant 6 is 259E.'
    ∷ symbol Braille 129 0x2881
    ∷ symbol Sextant 21 0x258C
    ∷ symbol Sextant 22 0x1FB14
    ∷ symbol Quadrant 6 0x259E
    ∷ []
