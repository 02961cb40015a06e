-- A plain definition of writing a picture file: every field stands, but a label's colour that is none.
-- The theorem `RoundTrip` says that what it writes is read back as the same opening and calls. Of files with absent fields it says nothing: their defaults are in `opening_of` and `call_of`.
use Rattle.std.specs.Prelude.{ℕ, zero, suc, ◌/◌, ◌%◌, ◌<◌, ◌≤◌, ◌^◌, ◌≡◌, true, List, [], ◌∷◌, ◌++◌, Float, length, Option, Some, None}
use Rattle.std.specs.Float.{binary64}
use Rattle.std.specs.Float.Ieee.{to_bits, fits}
use Rattle.walk.specs.declared.clip.Segment.{Segment}
use Rattle.walk.specs.declared.clip.Pair.{Pair}
use Rattle.shapes.specs.declared.painters.Shape.{Shape}
use Rattle.shapes.specs.declared.painters.Shape.TheVariants.{Line, FilledLine, Rectangle, Circle}
use Rattle.ledger.specs.Calls.{Call, draw, points, dot, layer, marker, print, render}
use Rattle.ledger.specs.declared.state.Opening.{Opening}
use Rattle.ledger.specs.Promise.{Every}
use Rattle.form.specs.Forms.{max_file, opening_form}
use Rattle.picture.specs.Opening.{opening_of}
use Rattle.picture.specs.Meaning.{entries_of, calls_of}

-- 'Little-endian': a number in n bytes, the lowest first
abbrev pub bytes_of : ℕ → ℕ → List ℕ
bytes_of zero value = []
bytes_of (suc n) value = value % 256 ∷ bytes_of n (value / 256)

abbrev pub float_bytes : Float → List ℕ
float_bytes x = bytes_of 8 (to_bits binary64 x)

abbrev pub segment_bytes : Segment → List ℕ
segment_bytes s = float_bytes s.x1 ++ (float_bytes s.y1 ++ (float_bytes s.x2 ++ float_bytes s.y2))

abbrev pub pair_bytes : List Pair → List ℕ
pair_bytes [] = []
pair_bytes (p ∷ pairs) = float_bytes p.x ++ (float_bytes p.y ++ pair_bytes pairs)

abbrev pub opening_bytes : Opening → List ℕ
opening_bytes o =
    bytes_of 2 o.columns ++ (bytes_of 2 o.rows ++ (127
    ∷ (float_bytes o.bounds.left ++ (float_bytes o.bounds.right ++ (float_bytes o.bounds.bottom ++ (float_bytes o.bounds.top
    ++ (bytes_of 1 o.marker ++ (bytes_of 4 o.character ++ bytes_of 4 o.background))))))))

-- kind, bit map, fields from bit 0; a render is no record
abbrev pub shape_bytes : Shape → ℕ → List ℕ
shape_bytes (Line s) colour = 1 ∷ 31 ∷ (segment_bytes s ++ bytes_of 4 colour)
shape_bytes (FilledLine s fill_to) colour = 2 ∷ 63 ∷ (segment_bytes s ++ (float_bytes fill_to ++ bytes_of 4 colour))
shape_bytes (Rectangle x y width height) colour = 3 ∷ 31 ∷ (float_bytes x ++ (float_bytes y ++ (float_bytes width ++ (float_bytes height ++ bytes_of 4 colour))))
shape_bytes (Circle x y radius) colour = 4 ∷ 15 ∷ (float_bytes x ++ (float_bytes y ++ (float_bytes radius ++ bytes_of 4 colour)))

abbrev pub label_bytes : Float → Float → List ℕ → Option ℕ → List ℕ
label_bytes x y text None = 8 ∷ 11 ∷ (float_bytes x ++ (float_bytes y ++ (bytes_of 1 (length text) ++ text)))
label_bytes x y text (Some colour) = 8 ∷ 15 ∷ (float_bytes x ++ (float_bytes y ++ (bytes_of 4 colour ++ (bytes_of 1 (length text) ++ text))))

abbrev pub record_bytes : Call → List ℕ
record_bytes (draw shape colour) = shape_bytes shape colour
record_bytes (points pairs colour) = 5 ∷ 3 ∷ (bytes_of 2 (length pairs) ++ (pair_bytes pairs ++ bytes_of 4 colour))
record_bytes layer = 6 ∷ 0 ∷ []
record_bytes (marker m character) = 7 ∷ 3 ∷ (bytes_of 1 m ++ bytes_of 4 character)
record_bytes (print x y text choice) = label_bytes x y text choice
record_bytes (dot column row colour) = 9 ∷ 7 ∷ (bytes_of 4 column ++ (bytes_of 4 row ++ bytes_of 4 colour))
record_bytes (render area words) = []

abbrev pub records_bytes : List Call → List ℕ
records_bytes [] = []
records_bytes (call ∷ calls) = record_bytes call ++ records_bytes calls

abbrev pub file_bytes : Opening → List Call → List ℕ
file_bytes o calls = opening_bytes o ++ records_bytes calls

-- ---- what a file can hold: floats of binary64, numbers of their fields' widths, and no render

abbrev pub IsByte : ℕ → Type 0
IsByte byte = byte < 2 ^ 8

abbrev pub IsFloat : Float → Type 0
IsFloat x = fits binary64 x ≡ true

abbrev pub HasFloats : Segment → Type 0
HasFloats s = IsFloat s.x1 × IsFloat s.y1 × IsFloat s.x2 × IsFloat s.y2

abbrev pub WritableOpening : Opening → Type 0
WritableOpening o =
    (o.columns < 2 ^ 16) × (o.rows < 2 ^ 16) × (o.marker < 2 ^ 8) × (o.character < 2 ^ 32) × (o.background < 2 ^ 32)
    × IsFloat o.bounds.left × IsFloat o.bounds.right × IsFloat o.bounds.bottom × IsFloat o.bounds.top

abbrev pub WritableShape : Shape → Type 0
WritableShape (Line s) = HasFloats s
WritableShape (FilledLine s fill_to) = HasFloats s × IsFloat fill_to
WritableShape (Rectangle x y width height) = IsFloat x × IsFloat y × IsFloat width × IsFloat height
WritableShape (Circle x y radius) = IsFloat x × IsFloat y × IsFloat radius

abbrev pub WritablePair : Pair → Type 0
WritablePair p = IsFloat p.x × IsFloat p.y

abbrev pub WritableChoice : Option ℕ → Type 0
WritableChoice None = Unit {0}
WritableChoice (Some colour) = colour < 2 ^ 32

abbrev pub Writable : Call → Type 0
Writable (draw shape colour) = WritableShape shape × (colour < 2 ^ 32)
Writable (points pairs colour) = Every WritablePair pairs × (length pairs < 2 ^ 16) × (colour < 2 ^ 32)
Writable layer = Unit {0}
Writable (marker m character) = (m < 2 ^ 8) × (character < 2 ^ 32)
Writable (print x y text choice) = IsFloat x × IsFloat y × (length text < 2 ^ 8) × Every IsByte text × WritableChoice choice
Writable (dot column row colour) = (column < 2 ^ 32) × (row < 2 ^ 32) × (colour < 2 ^ 32)
Writable (render area words) = ⊥

-- what is written for an opening and a list of calls is a file of good form that stands for that opening and those calls
pub record RoundTrip : Type 0 where
  pub bytes : (o : Opening) (calls : List Call) → Every Writable calls → Every IsByte (file_bytes o calls)
  pub form : (o : Opening) (calls : List Call) → length (file_bytes o calls) ≤ max_file → opening_form (file_bytes o calls) ≡ 0
  pub opening : (o : Opening) (calls : List Call) → WritableOpening o → opening_of (file_bytes o calls) ≡ o
  pub calls : (o : Opening) (calls last : List Call) → Every Writable calls → length (file_bytes o calls) ≤ max_file → calls_of (entries_of (file_bytes o calls)) last ≡ calls ++ last
