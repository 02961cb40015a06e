-- A float that equals itself is no NaN, and its bits give it back.
use mathlib.Core.Path.{refl, sym, ap, ◌∙◌}
use lib.Ieee.{binary64, to_bits}
use Rattle.form.proofs.FloatBits.{equal_no_nan, unequal-nan, bits_back, nan-back, nan-bits}
use Rattle.form.proofs.fields.to_bits.Goals as goal

pub float_to_bits-result : goal.float_to_bits-result
float_to_bits-result c = equal_no_nan _ c.if-x.true

pub returns-then-x : goal.returns-then-x
returns-then-x c = (refl, bits_back _ c.well_formed.0.1)

pub returns : goal.returns
returns c =
    let e = unequal-nan _ c.if-x.false in
    (nan-bits ∙ ap (to_bits binary64) (sym e), nan-back ∙ sym e)
