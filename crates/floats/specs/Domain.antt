-- Document 01, 'Domain': 'every coordinate, bound, length and radius is finite and at most 2^40 in magnitude'.
use Rattle.std.specs.Prelude.{◌*◌, ◌^◌, Bool, false, nat_le, Float}
use Rattle.std.specs.Float.{nan, inf, fin}
use Rattle.std.specs.Float.Ieee.{up, down}

unfoldable pub in_domain : Float → Bool
in_domain nan = false
in_domain (inf s) = false
in_domain (fin s m e) = nat_le (m * up e) (2 ^ 40 * down e)
