-- src/polyfills.rs: the same operations in the same order, each rounded once (document 01, 'Float numbers').
use Rattle.std.specs.Prelude.{cond, Float}
use Rattle.std.specs.Float.Ieee.{lt}
use Rattle.floats.specs.Arithmetic.{◌⊕◌, ◌⊖◌, ◌⊗◌, ◌⊘◌, bits}
use Rattle.floats.specs.Truncation.{whole_of}
use Rattle.floats.specs.Methods.{PI, abs_of, copysign_of}

-- Document 01: 'FRAC_1_PI 3FD45F306DC9C883'
abbrev pub FRAC-1-PI : Float
FRAC-1-PI = bits 0x3FD4_5F30_6DC9_C883

-- the literals of the Rust
abbrev pub 0·225 : Float
0·225 = bits 0x3FCC_CCCC_CCCC_CCCD

abbrev pub 0·25 : Float
0·25 = bits 0x3FD0_0000_0000_0000

abbrev pub 0·5 : Float
0·5 = bits 0x3FE0_0000_0000_0000

abbrev pub 1·0 : Float
1·0 = bits 0x3FF0_0000_0000_0000

abbrev pub 2·0 : Float
2·0 = bits 0x4000_0000_0000_0000

abbrev pub 16·0 : Float
16·0 = bits 0x4030_0000_0000_0000

-- `val * a + b`
abbrev pub mul_add_of : Float → Float → Float → Float
mul_add_of val a b = val ⊗ a ⊕ b

-- `(val + 0.5f64.copysign(val)) as i64 as f64`
unfoldable pub round_of : Float → Float
round_of val = whole_of (val ⊕ copysign_of 0·5 val)

-- the value cut to a whole number, and 1 less where that is above it
unfoldable pub floor_of : Float → Float
floor_of val = cond (lt val (whole_of val)) (whole_of val ⊖ 1·0) (whole_of val)

-- `cos`, a definition for each line of the Rust
-- `x *= FRAC_1_PI / 2.0`: the angle in turns
abbrev pub turns : Float → Float
turns x = x ⊗ (FRAC-1-PI ⊘ 2·0)

-- `x -= 0.25 + floor(x + 0.25)`: reduced to one turn
abbrev pub reduced : Float → Float
reduced x = x ⊖ (0·25 ⊕ floor_of (x ⊕ 0·25))

-- `x *= 16.0 * (x.abs() - 0.5)`
abbrev pub parabola : Float → Float
parabola x = x ⊗ (16·0 ⊗ (abs_of x ⊖ 0·5))

-- `x += 0.225 * x * (x.abs() - 1.0)`
abbrev pub corrected : Float → Float
corrected x = x ⊕ 0·225 ⊗ x ⊗ (abs_of x ⊖ 1·0)

unfoldable pub cos_of : Float → Float
cos_of val = corrected (parabola (reduced (turns val)))

-- `cos(val - PI / 2.0)`
unfoldable pub sin_of : Float → Float
sin_of val = cos_of (val ⊖ PI ⊘ 2·0)
