-- A point of a circle whose centre and radius are in the domain is no NaN, and such a point is inside bounds or outside them.
use mathlib.Core.Path.{◌≡◌, refl, sym, ◌∙◌}
use mathlib.Core.Bool.{Bool, true, false, ◌||◌}
use lib.Ieee.{Float, nan, inf, fin, lt}
use Rattle.std.specs.Prelude.{None}
use Rattle.std.proofs.lemmas.Bool.{or_parts}
use Rattle.floats.specs.Arithmetic.{◌⊗◌}
use Rattle.floats.specs.Rounding.{Finite}
use Rattle.floats.specs.Domain.{in_domain}
use Rattle.floats.specs.Polyfills.{mul_add_of}
use Rattle.floats.proofs.Cases.{true-not-false, false-not-true}
use Rattle.floats.proofs.Numbers.{IsNumber, domain-finite, domain-number, add-number, mul-number, not-above-le}
use Rattle.angles.proofs.AngleSizes.{at_most_one}
use Rattle.walk.specs.declared.clip.Bounds.{Bounds}
use Rattle.view.specs.Point.{outside_bounds, inside_bounds, point_of, regular_view}
use Rattle.view.proofs.RegularView.{regular}
use Rattle.view.specs.declared.point.View.{View}

-- ---- a point of a circle
at-most-one-finite : (c : Float) → at_most_one c ≡ true → Finite c
at-most-one-finite nan h = false-not-true h
at-most-one-finite (inf s) h = false-not-true h
at-most-one-finite (fin s m e) h = tt

pub point-number : (radius c x : Float) → in_domain radius ≡ true → at_most_one c ≡ true → in_domain x ≡ true → IsNumber (mul_add_of radius c x)
point-number radius c x h k l = add-number (radius ⊗ c) x (mul-number radius c (domain-finite radius h) (at-most-one-finite c k)) (domain-finite x l)

-- ---- inside or outside
abbrev pub NumberBounds : Bounds → Type 0
NumberBounds b = (IsNumber b.left × IsNumber b.right) × (IsNumber b.bottom × IsNumber b.top)

pub not-outside-inside : (b : Bounds) (x y : Float) → NumberBounds b → IsNumber x → IsNumber y → outside_bounds b x y ≡ false → inside_bounds b x y ≡ true
unfolding outside_bounds inside_bounds
not-outside-inside b x y n X Y h =
    let left = lt x b.left in
    let right = lt b.right x in
    let bottom = lt y b.bottom in
    let top = lt b.top y in
    let three = (or_parts ((left || right) || bottom) top h).0 in
    let two = (or_parts (left || right) bottom three).0 in
    rw (
      not-above-le b.left x n.0.0 X (or_parts left right two).0,
      not-above-le x b.right X n.0.1 (or_parts left right two).1,
      not-above-le y b.top Y n.1.1 (or_parts ((left || right) || bottom) top h).1,
      not-above-le b.bottom y n.1.0 Y (or_parts (left || right) bottom three).1,
    )

-- ---- a regular view
regular-bounds : (v : View) → regular_view v ≡ true → NumberBounds v.bounds
regular-bounds v h =
    let b = v.bounds in
    let d = (regular v h).domain in (
      (domain-number b.left d.left, domain-number b.right d.right),
      (domain-number b.bottom d.bottom, domain-number b.top d.top),
    )

-- a number that is not inside its bounds has no dot
pub not-inside-nowhere : (v : View) (x y : Float) → regular_view v ≡ true → IsNumber x → IsNumber y → inside_bounds v.bounds x y ≡ false → point_of v x y ≡ None
unfolding point_of
not-inside-nowhere v x y g X Y h = go (outside_bounds v.bounds x y) refl
  where
    go : (t : Bool) → outside_bounds v.bounds x y ≡ t → point_of v x y ≡ None
    go true e = rw e
    go false e = true-not-false (sym (not-outside-inside v.bounds x y (regular-bounds v g) X Y e) ∙ h)
