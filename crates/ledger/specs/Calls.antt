-- The calls on a canvas with their arguments, and the conditions on which each is refused: document 01, 'Calls and refusals, in order'.
use Rattle.std.specs.Prelude.{ℕ, ◌+◌, ◌*◌, Bool, false, not, ◌&&◌, ◌||◌, List, [], ◌∷◌, eqb, ltb, leb, Float, length, Option, Some, None}
use Rattle.std.specs.List.{list_any}
use Rattle.floats.specs.Domain.{in_domain}
use Rattle.walk.specs.declared.clip.Bounds.{Bounds}
use Rattle.walk.specs.declared.clip.Segment.{Segment}
use Rattle.walk.specs.declared.bresenham.Dot.{Dot}
use Rattle.grids.specs.Lists.{first}
use Rattle.grids.specs.Markers.{marker_of, is_marker, is_half_block}
use Rattle.view.specs.Limits.{max_columns, max_rows, max_draws, max_pairs, max_labels, max_text, reset, cell_words, label_words, screen_words}
use Rattle.lines.specs.Painted.{dot_at}
use Rattle.shapes.specs.Shapes.{pair_dots}
use Rattle.walk.specs.declared.clip.Pair.{Pair}
use Rattle.shapes.specs.Drawing.{shape_dots}
use Rattle.view.specs.declared.point.View.{View}
use Rattle.shapes.specs.declared.painters.Shape.{Shape}
use Rattle.shapes.specs.declared.painters.Shape.TheVariants.{Line, FilledLine, Rectangle, Circle}
use Rattle.ledger.specs.declared.screen.Area.{Area}
use Rattle.ledger.specs.declared.state.Opening.{Opening}

-- a call's arguments; `render` has the screen's size, the area's corner and the screen's words
pub data Call : Type 0 where
  draw : Shape → ℕ → Call
  points : List Pair → ℕ → Call
  dot : ℕ → ℕ → ℕ → Call
  layer : Call
  marker : ℕ → ℕ → Call
  print : Float → Float → List ℕ → Option ℕ → Call
  render : Area → List ℕ → Call

-- ---- the conditions

abbrev pub bad_size : ℕ → ℕ → Bool
bad_size columns rows = not ((leb 1 columns && leb columns max_columns) && (leb 1 rows && leb rows max_rows))

abbrev pub bad_bounds : Bounds → Bool
bad_bounds b = not ((in_domain b.left && in_domain b.right) && (in_domain b.bottom && in_domain b.top))

abbrev pub bad_colour : ℕ → Bool
bad_colour colour = ltb reset colour

abbrev pub bad_segment : Segment → Bool
bad_segment s = not ((in_domain s.x1 && in_domain s.y1) && (in_domain s.x2 && in_domain s.y2))

-- '2 a number'
unfoldable pub bad_shape : Shape → Bool
bad_shape (Line s) = bad_segment s
bad_shape (FilledLine s fill_to) = bad_segment s || not (in_domain fill_to)
bad_shape (Rectangle x y width height) = not ((in_domain x && in_domain y) && (in_domain width && in_domain height))
bad_shape (Circle x y radius) = not ((in_domain x && in_domain y) && in_domain radius)

abbrev pub bad_point : Float → Float → Bool
bad_point x y = not (in_domain x && in_domain y)

unfoldable pub bad_pairs : List Pair → Bool
bad_pairs [] = false
bad_pairs (p ∷ pairs) = bad_point p.x p.y || bad_pairs pairs

-- '9 outside a HalfBlock grid', which has two rows of dots a cell
unfoldable pub outside_grid : ℕ → ℕ → ℕ → ℕ → ℕ → Bool
outside_grid m columns rows column row = is_half_block (marker_of m) && not (ltb column columns && ltb row (rows * 2))

abbrev pub bad_choice : Option ℕ → Bool
bad_choice None = false
bad_choice (Some colour) = bad_colour colour

-- '10 text over 40 bytes or a byte outside 20 to 7E'
abbrev pub bad_byte : ℕ → Bool
bad_byte byte = ltb byte 0x20 || ltb 0x7E byte

unfoldable pub bad_bytes : List ℕ → Bool
bad_bytes text = list_any bad_byte text

abbrev pub bad_text : List ℕ → Bool
bad_text text = ltb max_text (length text) || bad_bytes text

-- '12 the area passes an edge'
abbrev pub passes_edge : ℕ → ℕ → Area → Bool
passes_edge columns rows a = ltb a.columns (a.x + columns) || ltb a.rows (a.y + rows)

-- '13 not columns × rows cells'
abbrev pub bad_screen : Area → List ℕ → Bool
bad_screen a words = not (eqb (length words) (a.columns * a.rows * screen_words))

-- ---- a call's refusal after 'state', by its arguments, the opening and what is held: draws and dots accepted, labels, the marker
unfoldable pub refusal : Opening → ℕ → ℕ → ℕ → Call → ℕ
refusal o draws labels m (draw shape colour) = first ((bad_shape shape, 2) ∷ (bad_colour colour, 3) ∷ (leb max_draws draws, 7) ∷ [])
refusal o draws labels m (points pairs colour) = first ((bad_pairs pairs, 2) ∷ (bad_colour colour, 3) ∷ (leb max_draws draws, 7) ∷ (ltb max_pairs (length pairs), 8) ∷ [])
refusal o draws labels m (dot column row colour) = first ((bad_colour colour, 3) ∷ (leb max_draws draws, 7) ∷ (outside_grid m o.columns o.rows column row, 9) ∷ [])
refusal o draws labels m layer = 0
refusal o draws labels m (marker number character) = first ((not (is_marker number character), 4) ∷ [])
refusal o draws labels m (print x y text choice) = first ((bad_point x y, 2) ∷ (bad_choice choice, 3) ∷ (bad_text text, 10) ∷ (leb max_labels labels, 11) ∷ [])
refusal o draws labels m (render area words) = first ((passes_edge o.columns o.rows area, 12) ∷ (bad_screen area words, 13) ∷ [])

-- 'Open: 1 size; 2 a bound outside the domain; 3 colour; 4 marker not 1 to 8, or 8 with no scalar value; 5 store below columns × rows cells, or label store below 64 labels', by the stores' lengths in words
unfoldable pub open_refusal : Opening → ℕ → ℕ → ℕ
open_refusal o cells labels =
    first (
    (bad_size o.columns o.rows, 1)
    ∷ (bad_bounds o.bounds, 2)
    ∷ (bad_colour o.background, 3)
    ∷ (not (is_marker o.marker o.character), 4)
    ∷ (ltb cells (o.columns * o.rows * cell_words) || ltb labels (max_labels * label_words), 5)
    ∷ []
    )

-- ---- the dots of a draw or a dot on a canvas with this marker

unfoldable pub call_dots : View → Call → List Dot
call_dots v (draw shape colour) = shape_dots v shape
call_dots v (points pairs colour) = pair_dots v pairs
call_dots v (dot column row colour) = dot_at column row ∷ []
call_dots v layer = []
call_dots v (marker number character) = []
call_dots v (print x y text choice) = []
call_dots v (render area words) = []
