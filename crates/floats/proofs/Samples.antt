-- The samples hold, by computation.
use Rattle.std.proofs.Common.{refl}
use lib.Ieee.{of_bits, to_bits, add, sub, mul, div, lt, neg, of_int}
use Rattle.floats.specs.Truncation.{as_signed}
use Rattle.floats.specs.Methods.{abs_of}
use Rattle.floats.specs.Polyfills.{round_of, floor_of, sin_of, cos_of}
use Rattle.floats.specs.Samples.{samples, Hold}

pub samples-hold : Hold samples
unfolding of_bits to_bits add sub mul div lt neg of_int as_signed abs_of round_of floor_of sin_of cos_of
samples-hold = (refl, (refl, (refl, (refl, (refl, (refl, (refl, (refl, (refl, (refl, (refl, (refl, (refl, tt)))))))))))))
