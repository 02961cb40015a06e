-- The kit's sign of a float, and what it gives with the sign cleared, are these.
use Rattle.std.proofs.Common.{◌≡◌, true, false, sym, refl}
use lib.Ieee.{Float, nan, inf, fin, is_nan}
use Rattle.std.specs.Float.{is_sign_negative, float_with_sign}
use Rattle.floats.specs.Methods.{is_negative, abs_of}
use Rattle.floats.proofs.Cases.{true-not-false}

pub sign_is : (x : Float) → is_sign_negative x ≡ is_negative x
unfolding is_sign_negative
sign_is nan = refl
sign_is (inf s) = refl
sign_is (fin s m e) = refl

-- a NaN has none
pub no_sign : (x : Float) → is_nan x ≡ true → is_negative x ≡ false
unfolding is_nan
no_sign nan h = refl
no_sign (inf s) h = true-not-false (sym h)
no_sign (fin s m e) h = true-not-false (sym h)

pub cleared_is : (x : Float) → float_with_sign false x ≡ abs_of x
unfolding float_with_sign abs_of
cleared_is nan = refl
cleared_is (inf s) = refl
cleared_is (fin s m e) = refl
