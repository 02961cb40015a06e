-- Rust's `as` from f64 to an integer. Document 01, 'Float numbers': 'Truncation drops the fraction; NaN gives 0; ends of the range hold.'
use Rattle.std.specs.Prelude.{ℕ, ◌-◌, ◌*◌, ◌/◌, ◌^◌, min, true, false, ℤ, pos, neg_ℤ, Float}
use Rattle.std.specs.Float.{nan, inf, fin, binary64}
use Rattle.std.specs.Float.Ieee.{up, down, of_int}

-- m * 2 ^ e without its fraction
abbrev pub whole_part : ℕ → ℤ → ℕ
whole_part m e = m * up e / down e

-- to a signed integer, from -2 ^ h to 2 ^ h - 1
unfoldable pub as_signed : ℕ → Float → ℤ
as_signed h nan = pos 0
as_signed h (inf true) = neg_ℤ (pos (2 ^ h))
as_signed h (inf false) = pos (2 ^ h - 1)
as_signed h (fin true m e) = neg_ℤ (pos (min (whole_part m e) (2 ^ h)))
as_signed h (fin false m e) = pos (min (whole_part m e) (2 ^ h - 1))

-- to an unsigned integer, from 0 to 2 ^ w - 1
unfoldable pub as_unsigned : ℕ → Float → ℕ
as_unsigned w nan = 0
as_unsigned w (inf true) = 0
as_unsigned w (inf false) = 2 ^ w - 1
as_unsigned w (fin true m e) = 0
as_unsigned w (fin false m e) = min (whole_part m e) (2 ^ w - 1)

-- `x as i64 as f64`; the second cast rounds once
abbrev pub whole_of : Float → Float
whole_of x = of_int binary64 (as_signed 63 x)
