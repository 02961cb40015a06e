-- specs/Rounding's statement, proved: the operations that the code uses round once, and this determines their results, which the kit shows to be floats of binary64.
pub mod Closest
pub mod Kept
pub mod Correct
pub mod Unique
pub mod Operations
use Rattle.std.proofs.Common.{◌≡◌, T, sym, ◌∙◌}
use lib.Ieee.{Float, binary64, fits}
use lib.Ieee.Fits.{add-fits, sub-fits, mul-fits, div-fits, of_int-fits}
use Rattle.floats.specs.Rounding.{Exact, invalid, infinite, fraction, Rounds, RoundsOnce}
use Rattle.floats.proofs.Rounding.Unique.{rounded-unique, finite-candidate}
use Rattle.floats.proofs.Rounding.Operations.{sum-once, difference-once, product-once, quotient-once, integer-once}

rounds-unique : (v : Exact) (x y : Float) → T (fits binary64 x) → T (fits binary64 y) → Rounds x v → Rounds y v → x ≡ y
rounds-unique invalid x y F G r s = r ∙ sym s
rounds-unique (infinite t) x y F G r s = r ∙ sym s
rounds-unique (fraction t num den) x y F G r s = rounded-unique x y t num den F G r s

pub rounds-once : RoundsOnce
rounds-once = record {
  sum = sum-once;
  difference = difference-once;
  product = product-once;
  quotient = quotient-once;
  integer = integer-once;
  fitting = record {
    sum = add-fits binary64;
    difference = sub-fits binary64;
    product = mul-fits binary64;
    quotient = div-fits binary64;
    integer = of_int-fits binary64;
  };
  candidate = finite-candidate;
  determined = rounds-unique;
}
