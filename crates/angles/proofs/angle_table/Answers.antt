-- The table is the definition's, by computation.
use mathlib.Core.Path.{refl}
use lib.Ieee.{of_bits, add, sub, mul, div, lt, neg, of_int}
use Rattle.floats.specs.Truncation.{as_signed}
use Rattle.floats.specs.Methods.{abs_of}
use Rattle.floats.specs.Polyfills.{floor_of, sin_of, cos_of}
use Rattle.angles.specs.Angles.{angle_table}
use Rattle.angles.proofs.angle_table.Goals as goal

pub returns : goal.returns
unfolding of_bits add sub mul div lt neg of_int as_signed abs_of floor_of sin_of cos_of angle_table
returns c = refl
