-- The circle's angles, 0 to 359 degrees (document 01, 'Shapes': 'Circle: 360 angles'): the cosine and the sine of each, by the polyfills.
use Rattle.std.specs.Prelude.{List, [], ◌∷◌, ℕ, zero, suc, pos, Float}
use Rattle.std.specs.Float.{binary64}
use Rattle.std.specs.Float.Ieee.{of_int}
use Rattle.floats.specs.Methods.{to_radians_of}
use Rattle.floats.specs.Polyfills.{sin_of, cos_of}

abbrev pub cos_at : ℕ → Float
cos_at degrees = cos_of (to_radians_of (of_int binary64 (pos degrees)))

abbrev pub sin_at : ℕ → Float
sin_at degrees = sin_of (to_radians_of (of_int binary64 (pos degrees)))

-- the cosine and the sine of n angles from k degrees on, angle by angle
abbrev pub angles_from : ℕ → ℕ → List Float
angles_from k zero = []
angles_from k (suc n) = cos_at k ∷ sin_at k ∷ angles_from (suc k) n

unfoldable pub angle_table : List Float
angle_table = angles_from 0 360
