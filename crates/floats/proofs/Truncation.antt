-- The kit's casts of a float to an integer are these.
use mir.ValLaws.{to_z-of_z}
use Rattle.std.proofs.Common.{◌≡◌, ℕ, true, false, refl}
use lib.Ieee.{Float, nan, inf, fin, to_signed, to_unsigned}
use Rattle.floats.specs.Truncation.{as_signed, as_unsigned}

pub signed_is : (h : ℕ) (x : Float) → to_signed h x ≡ as_signed h x
unfolding to_signed as_signed
signed_is h nan = refl
signed_is h (inf true) = refl
signed_is h (inf false) = refl
signed_is h (fin true m e) = refl
signed_is h (fin false m e) = refl

pub unsigned_is : (w : ℕ) (x : Float) → to_unsigned w x ≡ as_unsigned w x
unfolding to_unsigned as_unsigned
unsigned_is w nan = refl
unsigned_is w (inf true) = refl
unsigned_is w (inf false) = refl
unsigned_is w (fin true m e) = refl
unsigned_is w (fin false m e) = refl

-- for `as_i64`: what the kit's cast gives, through 64 bits and back
pub ruleset signed_casts = (to_z-of_z, signed_is)
