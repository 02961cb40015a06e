-- The fields of a picture file: document 01, 'Picture file (ours) and its program'.
use Rattle.std.specs.Prelude.{ℕ, zero, suc, ◌+◌, ◌*◌, ◌/◌, ◌%◌, ◌^◌, Bool, cond, List, length, ◌==◌, nat_le, slice_index, Float}
use Rattle.std.specs.Float.{binary64}
use Rattle.std.specs.Float.Ieee.{to_bits}
use Rattle.floats.specs.Arithmetic.{bits}

-- 'Little-endian': the number in n bytes from a place on
abbrev pub little : List ℕ → ℕ → ℕ → ℕ
little part at zero = 0
little part at (suc n) = slice_index part at + 256 * little part (at + 1) n

-- the same of a field, which counts 0 where the part ends inside it; its record is then refused with 14
abbrev pub number_at : List ℕ → ℕ → ℕ → ℕ
number_at part at n = cond (nat_le (at + n) (length part)) (little part at n) 0

-- 'a bit map byte, then only the fields whose bit stands': the bit of this weight
unfoldable pub stands : ℕ → ℕ → Bool
stands map weight = map / weight % 2 == 1

-- the bytes that a field takes
abbrev pub width_in : ℕ → ℕ → ℕ → ℕ
width_in map weight width = cond (stands map weight) width 0

-- a number's field at a place, and a float's; 'absent: 0.0'
abbrev pub number_in : List ℕ → ℕ → ℕ → ℕ → ℕ → ℕ → ℕ
number_in part at map weight width absent = cond (stands map weight) (number_at part at width) absent

abbrev pub float_in : List ℕ → ℕ → ℕ → ℕ → Float
float_in part at map weight = bits (number_in part at map weight 8 0)

-- the bits of a float; a NaN's are those of the quiet one
abbrev pub bits_of : Float → ℕ
bits_of x = to_bits binary64 x

-- ---- fields one after the other from bit 0, by their widths

-- the place of field k, in bytes from the record's first field
abbrev pub place_of : ℕ → List ℕ → ℕ → ℕ
place_of map widths zero = 0
place_of map widths (suc k) = place_of map widths k + width_in map (2 ^ k) (slice_index widths k)

-- all the fields that stand
abbrev pub size_by : ℕ → List ℕ → ℕ
size_by map widths = place_of map widths (length widths)

abbrev pub number_field : ℕ → List ℕ → List ℕ → ℕ → ℕ → ℕ
number_field map part widths k absent = number_in part (place_of map widths k) map (2 ^ k) (slice_index widths k) absent

abbrev pub float_field : ℕ → List ℕ → List ℕ → ℕ → Float
float_field map part widths k = float_in part (place_of map widths k) map (2 ^ k)
