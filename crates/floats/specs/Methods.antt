-- Methods of f64 in Rust's core that the sources call.
use Rattle.std.specs.Prelude.{Bool, false, cond, Float}
use Rattle.std.specs.Float.{nan, inf, fin}
use Rattle.std.specs.Float.Ieee.{neg, lt}
use Rattle.floats.specs.Arithmetic.{◌⊗◌, ◌⊘◌, bits}

-- Document 01: 'PI has bits 400921FB54442D18'
abbrev pub PI : Float
PI = bits 0x4009_21FB_5444_2D18

-- whether the sign is set; a NaN, of which there is one here, counts as without
abbrev pub is_negative : Float → Bool
is_negative nan = false
is_negative (inf s) = s
is_negative (fin s m e) = s

-- Document 01: '`abs` clears the sign'
unfoldable pub abs_of : Float → Float
abs_of nan = nan
abs_of (inf s) = inf false
abs_of (fin s m e) = fin false m e

abbrev pub copysign_of : Float → Float → Float
copysign_of x sign = cond (is_negative sign) (neg (abs_of x)) (abs_of x)

-- `clamp` of core: first not below min, then not above max
abbrev pub at_least : Float → Float → Float
at_least x min = cond (lt x min) min x

abbrev pub at_most : Float → Float → Float
at_most x max = cond (lt max x) max x

abbrev pub clamp_of : Float → Float → Float → Float
clamp_of x min max = at_most (at_least x min) max

-- Document 01: '`to_radians` multiplies by PI / 180'
abbrev pub to_radians_of : Float → Float
to_radians_of x = x ⊗ (PI ⊘ bits 0x4066_8000_0000_0000)
