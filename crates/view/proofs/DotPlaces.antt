-- Each way out of `scaled`, over plain values, the point's dot by its frame, and that the dots of a view of 16-bit sizes are of 16 bits.
use Rattle.std.proofs.Common.{◌≡◌, ℕ, ◌-◌, ◌^◌, ◌<◌, Option, Some, None, true, false, ◌||◌, refl, arith}
use lib.Ieee.{Float, lt, le, to_unsigned}
use Rattle.floats.specs.Arithmetic.{◌⊕◌, ◌⊖◌, ◌⊗◌, ◌⊘◌}
use Rattle.floats.specs.Polyfills.{0·5, 1·0}
use Rattle.floats.proofs.Truncation.{unsigned_is}
use Rattle.floats.proofs.HalfAdded.{half-low, half-below, half-from}
use Rattle.grids.proofs.Cases.{either}
use Rattle.view.specs.Point.{whole, outside_bounds, flat_bounds, scaled_of, point_of, frame_of, scaled_by, spot_of}
use Rattle.view.specs.declared.point.View.{View}

-- ---- a distance in dots, from the sum with a half
module _ (distance steps : Float) (dots : ℕ) (width : Float) where
  abbrev half_added : Float
  half_added = distance ⊗ steps ⊘ width ⊕ 0·5

  pub scaled-low : le 1·0 half_added ≡ false → 0 ≡ scaled_by distance steps dots width
  unfolding scaled_by
  scaled-low h = omega (arith, half-low _ h)

  module _ (small : dots < 2 ^ 16) (some : le 1·0 half_added ≡ true) where
    pub scaled-below : lt half_added (whole dots) ≡ true → to_unsigned 64 half_added ≡ scaled_by distance steps dots width
    unfolding scaled_by
    scaled-below h = let b = half-below _ dots small some h in omega (arith, unsigned_is 64 half_added, b.0, b.1)

    pub scaled-few : lt half_added (whole dots) ≡ true → to_unsigned 64 half_added < 2 ^ 16
    scaled-few h = omega (arith, unsigned_is 64 half_added, (half-below _ dots small some h).1)

    pub scaled-top : lt half_added (whole dots) ≡ false → dots - 1 ≡ scaled_by distance steps dots width
    unfolding scaled_by
    scaled-top h = omega (arith, half-from _ dots small some h)

-- ---- a point's dot by its frame
pub spot-point : (v : View) (x y : Float) → spot_of (frame_of v) x y ≡ point_of v x y
unfolding frame_of spot_of scaled_by scaled_of point_of
spot-point v x y = refl

-- ---- a dot in a view of 16-bit sizes
abbrev pub Fits : Option (ℕ × ℕ) → Type 0
Fits (Some (column, row)) = (column < 2 ^ 16) × (row < 2 ^ 16)
Fits None = Unit {0}

scaled_fits : (distance : Float) (dots : ℕ) (width : Float) → dots < 2 ^ 16 → scaled_of distance dots width < 2 ^ 16
unfolding scaled_of
scaled_fits distance dots width h = omega arith

module _ (v : View) (wide : v.width < 2 ^ 16) (high : v.height < 2 ^ 16) where
  pub point-fits : (x y : Float) → Fits (point_of v x y)
  unfolding point_of
  point-fits x y =
      either Fits (outside_bounds v.bounds x y || flat_bounds v.bounds) tt
      (scaled_fits (x ⊖ v.bounds.left) v.width (v.bounds.right ⊖ v.bounds.left) wide, scaled_fits (v.bounds.top ⊖ y) v.height (v.bounds.top ⊖ v.bounds.bottom) high)

-- for the three ways out of `scaled`
pub ruleset scaling = (scaled-low, scaled-below, scaled-few, scaled-top)
