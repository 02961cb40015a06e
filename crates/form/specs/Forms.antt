-- The form of a picture file's opening and records, by their bytes alone: document 01, 'Picture file (ours) and its program'.
use Rattle.std.specs.Prelude.{ℕ, ◌+◌, ◌*◌, ◌^◌, Bool, cond, ◌||◌, List, [], ◌∷◌, length, drop, ◌==◌, nat_le, nat_lt, slice_index}
use Rattle.grids.specs.Lists.{first}
use Rattle.form.specs.Fields.{number_at, place_of, size_by, number_in}

-- '17 over 65,536 bytes'
abbrev pub max_file : ℕ
max_file = 65536

-- ---- the opening: 'Columns and rows (2 bytes each), a bit map byte, then only the fields whose bit stands'

-- 'left, right, bottom, top (8-byte floats), marker (1), character (4), background (4)'
abbrev pub opening_widths : List ℕ
opening_widths = 8 ∷ 8 ∷ 8 ∷ 8 ∷ 1 ∷ 4 ∷ 4 ∷ []

abbrev pub opening_map : List ℕ → ℕ
opening_map file = slice_index file 4

-- the file from the opening's first field on
abbrev pub opening_part : List ℕ → List ℕ
opening_part file = drop 5 file

-- where the first record begins
unfoldable pub opening_end : List ℕ → ℕ
opening_end file = 5 + size_by (opening_map file) opening_widths

-- '17 over 65,536 bytes; 14 ended before the map byte; ... 16 a map bit with no field; 14 a field cut short'
unfoldable pub opening_form : List ℕ → ℕ
opening_form file =
    first (
    (nat_lt max_file (length file), 17)
    ∷ (nat_lt (length file) 5, 14)
    ∷ (nat_le 128 (opening_map file), 16)
    ∷ (nat_lt (length file) (opening_end file), 14)
    ∷ []
    )

-- ---- records: 'kind, bit map, fields from bit 0'

-- 'line x1 y1 x2 y2 colour', and 'rectangle x y width height colour'
abbrev pub line_widths : List ℕ
line_widths = 8 ∷ 8 ∷ 8 ∷ 8 ∷ 4 ∷ []

-- 'filled line x1 y1 x2 y2 fill_to_y colour'
abbrev pub filled_line_widths : List ℕ
filled_line_widths = 8 ∷ 8 ∷ 8 ∷ 8 ∷ 8 ∷ 4 ∷ []

-- 'circle x y radius colour'
abbrev pub circle_widths : List ℕ
circle_widths = 8 ∷ 8 ∷ 8 ∷ 4 ∷ []

-- 'points list (2-byte count, pairs) colour'
abbrev pub points_widths : List ℕ → List ℕ
points_widths part = (2 + 16 * number_at part 0 2) ∷ 4 ∷ []

-- 'absent: ... empty'
abbrev pub pair_count : ℕ → List ℕ → ℕ
pair_count map part = number_in part 0 map 1 2 0

-- 'marker character'
abbrev pub marker_widths : List ℕ
marker_widths = 1 ∷ 4 ∷ []

-- 'label x y colour text (1-byte length)': the text's place follows from the three before it
abbrev pub text_place : ℕ → ℕ
text_place map = place_of map (8 ∷ 8 ∷ 4 ∷ []) 3

abbrev pub label_widths : ℕ → List ℕ → List ℕ
label_widths map part = 8 ∷ 8 ∷ 4 ∷ (1 + number_at part (text_place map) 1) ∷ []

-- 'dot column row (4 each) colour'
abbrev pub dot_widths : List ℕ
dot_widths = 4 ∷ 4 ∷ 4 ∷ []

-- the fields of a kind; 0 is no kind, and neither is a number above 9
unfoldable pub widths_of : ℕ → ℕ → List ℕ → List ℕ
widths_of kind map part =
    cond (kind == 1) line_widths
    (cond (kind == 2) filled_line_widths
    (cond (kind == 3) line_widths
    (cond (kind == 4) circle_widths
    (cond (kind == 5) (points_widths part)
    (cond (kind == 7) marker_widths
    (cond (kind == 8) (label_widths map part)
    (cond (kind == 9) dot_widths [])))))))

abbrev pub is_unknown : ℕ → Bool
is_unknown kind = nat_lt kind 1 || nat_lt 9 kind

-- ---- a record of a file, by the place of its first byte

abbrev pub kind_at : List ℕ → ℕ → ℕ
kind_at file at = slice_index file at

abbrev pub map_at : List ℕ → ℕ → ℕ
map_at file at = slice_index file (at + 1)

-- 'Each record's rest is handed on as a part of the file.'
abbrev pub part_at : List ℕ → ℕ → List ℕ
part_at file at = drop (at + 2) file

abbrev pub record_widths : List ℕ → ℕ → List ℕ
record_widths file at = widths_of (kind_at file at) (map_at file at) (part_at file at)

-- where the next record begins
unfoldable pub record_end : List ℕ → ℕ → ℕ
record_end file at = at + 2 + size_by (map_at file at) (record_widths file at)

-- '17 over 65,536 bytes; 14 ended before the map byte; 15 unknown kind; 16 a map bit with no field; 14 a field cut short'
unfoldable pub record_form : List ℕ → ℕ → ℕ
record_form file at =
    first (
    (nat_lt max_file (length file), 17)
    ∷ (nat_lt (length file) (at + 2), 14)
    ∷ (is_unknown (kind_at file at), 15)
    ∷ (nat_le (2 ^ length (record_widths file at)) (map_at file at), 16)
    ∷ (nat_lt (length file) (record_end file at), 14)
    ∷ []
    )
