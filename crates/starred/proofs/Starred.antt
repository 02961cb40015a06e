-- The starred samples hold, by computation.
use mathlib.Core.Path.{refl}
use lib.Ieee.{of_bits, add, sub, mul, div, lt, le, neg, of_int, to_signed, to_unsigned}
use Rattle.floats.specs.Polyfills.{round_of, floor_of}
use Rattle.floats.specs.Truncation.{as_unsigned, as_signed}
use Rattle.floats.specs.Methods.{abs_of}
use Rattle.walk.specs.Line.{starts_second, from_start, offset_after, dot_after, line_dots}
use Rattle.grids.specs.Symbols.{braille_symbol, quadrant_symbol, sextant_symbol}
use Rattle.view.specs.Point.{outside_bounds, flat_bounds, scaled_of, point_of}
use Rattle.starred.specs.Starred.{AllHold, starred}

pub starred-hold : AllHold starred
unfolding of_bits add sub mul div lt le neg of_int to_signed to_unsigned round_of floor_of as_unsigned abs_of outside_bounds flat_bounds scaled_of point_of starts_second from_start offset_after dot_after line_dots braille_symbol quadrant_symbol sextant_symbol as_signed
starred-hold = (refl, (refl, (refl, (refl, (refl, (refl, (refl, (refl, (refl, (refl, (refl, tt)))))))))))
