-- The shifted digits are the whole part, by the laws of floats' WholePart.
use Rattle.std.proofs.Common.{T, sym, subst, rules, arith}
use lib.Ieee.{binary64}
use lib.Ieee.Bits.{to_bits-lt}
use Rattle.floats.proofs.WholePart.{shifted-small}
use Rattle.view.proofs.point.whole_inside.Goals as goal

pub returns : goal.returns
returns c =
    shifted-small c.args.x _ (search rules) (omega (arith, to_bits-lt binary64 c.args.x (subst T (sym c.well_formed.0.1) tt))) c.well_formed.0.1 c.requires
