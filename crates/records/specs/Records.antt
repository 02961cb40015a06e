-- The calls that the records of a picture file stand for: document 01, 'Picture file (ours) and its program'.
use Rattle.std.specs.Prelude.{ℕ, ◌+◌, ◌≤◌, ◌≡◌, cond, List, [], ◌∷◌, eqb, length, take, drop, Option, Some, None}
use Rattle.walk.specs.declared.clip.Segment.{Segment}
use Rattle.view.specs.Limits.{reset}
use Rattle.shapes.specs.declared.painters.Shape.TheVariants.{Line, FilledLine, Rectangle, Circle}
use Rattle.ledger.specs.Calls.{Call, draw, points, dot, layer, marker, print}
use Rattle.form.specs.Fields.{number_at, stands, place_of, number_field, float_field}
use Rattle.form.specs.Forms.{max_file, line_widths, filled_line_widths, circle_widths, points_widths, pair_count, marker_widths, text_place, dot_widths, kind_at, map_at, part_at}
use Rattle.lists.specs.Lists.{pairs_at}

-- the colour, 'absent: ... Reset'
abbrev pub colour_field : ℕ → List ℕ → List ℕ → ℕ → ℕ
colour_field map part widths k = number_field map part widths k reset

-- two ends
abbrev pub segment_fields : ℕ → List ℕ → List ℕ → Segment
segment_fields map part widths = record { x1 = float_field map part widths 0; y1 = float_field map part widths 1; x2 = float_field map part widths 2; y2 = float_field map part widths 3 }

abbrev pub line_call : ℕ → List ℕ → Call
line_call map part = draw (Line (segment_fields map part line_widths)) (colour_field map part line_widths 4)

abbrev pub filled_line_call : ℕ → List ℕ → Call
filled_line_call map part = draw (FilledLine (segment_fields map part filled_line_widths) (float_field map part filled_line_widths 4)) (colour_field map part filled_line_widths 5)

abbrev pub rectangle_call : ℕ → List ℕ → Call
rectangle_call map part =
    draw (Rectangle (float_field map part line_widths 0) (float_field map part line_widths 1) (float_field map part line_widths 2) (float_field map part line_widths 3))
    (colour_field map part line_widths 4)

abbrev pub circle_call : ℕ → List ℕ → Call
circle_call map part =
    draw (Circle (float_field map part circle_widths 0) (float_field map part circle_widths 1) (float_field map part circle_widths 2)) (colour_field map part circle_widths 3)

abbrev pub points_call : ℕ → List ℕ → Call
points_call map part = points (pairs_at part 2 (pair_count map part)) (colour_field map part (points_widths part) 1)

-- 'marker 1, character 0020'
abbrev pub marker_call : ℕ → List ℕ → Call
marker_call map part = marker (number_field map part marker_widths 0 1) (number_field map part marker_widths 1 0x20)

-- 'a label's colour none'
abbrev pub label_colour : ℕ → List ℕ → Option ℕ
label_colour map part = cond (stands map 4) (Some (number_at part (place_of map (8 ∷ 8 ∷ []) 2) 4)) None

abbrev pub label_text : ℕ → List ℕ → List ℕ
label_text map part = cond (stands map 8) (take (number_at part (text_place map) 1) (drop (text_place map + 1) part)) []

abbrev pub label_call : ℕ → List ℕ → Call
label_call map part = print (float_field map part (8 ∷ 8 ∷ []) 0) (float_field map part (8 ∷ 8 ∷ []) 1) (label_text map part) (label_colour map part)

abbrev pub dot_call : ℕ → List ℕ → Call
dot_call map part = dot (number_field map part dot_widths 0 0) (number_field map part dot_widths 1 0) (colour_field map part dot_widths 2)

-- '1 line ...; 2 filled line ...; 3 rectangle ...; 4 circle ...; 5 points ...; 6 layer; 7 marker ...; 8 label ...; 9 dot'
unfoldable pub call_of : ℕ → ℕ → List ℕ → Call
call_of kind map part =
    cond (eqb kind 1) (line_call map part)
    (cond (eqb kind 2) (filled_line_call map part)
    (cond (eqb kind 3) (rectangle_call map part)
    (cond (eqb kind 4) (circle_call map part)
    (cond (eqb kind 5) (points_call map part)
    (cond (eqb kind 7) (marker_call map part)
    (cond (eqb kind 8) (label_call map part)
    (cond (eqb kind 9) (dot_call map part) layer)))))))

unfoldable pub record_call : List ℕ → ℕ → Call
record_call file at = call_of (kind_at file at) (map_at file at) (part_at file at)

-- ---- the kinds of which the code takes a record with all its fields as a whole: line, filled line and circle

abbrev pub CompleteKind : ℕ → Type 0
CompleteKind kind = (1 ≤ kind) × ((kind ≤ 4) × (kind ≡ 3 → ⊥))

-- the map with every bit, and the bytes of the fields
abbrev pub complete_map : ℕ → ℕ
complete_map kind = cond (eqb kind 1) 31 (cond (eqb kind 2) 63 15)

abbrev pub complete_size : ℕ → ℕ
complete_size kind = cond (eqb kind 1) 36 (cond (eqb kind 2) 44 28)

-- such a record stands at a place, uncut
abbrev pub CompleteAt : List ℕ → ℕ → ℕ → Type 0
CompleteAt file at kind = CompleteKind kind × ((length file ≤ max_file) × ((at + 2 + complete_size kind ≤ length file) × ((kind_at file at ≡ kind) × (map_at file at ≡ complete_map kind))))
