-- Every point of a circle is inside bounds that its outermost points are within: a cosine or a sine is at most 1 in size, and a product with the radius and a sum keep the order.
use mathlib.Core.Path.{◌≡◌, refl}
use mathlib.Core.Bool.{Bool, true, false, ◌&&◌}
use Prim.Native.Nat.{ℕ, ◌*◌, ◌≤◌, ◌<◌}
use native.Mathlib.Omega.{arith}
use lib.IntN.{ℤ, pos}
use lib.Ieee.{Float, nan, inf, fin, of_bits, neg, mul, up, down, lt, le, below}
use borrow.Author.Tests.{leb-true, le-ltb}
use Rattle.std.proofs.lemmas.Bool.{and_parts}
use Rattle.floats.specs.Arithmetic.{◌⊗◌, bits}
use Rattle.floats.specs.Polyfills.{1·0, mul_add_of}
use Rattle.floats.proofs.Cases.{false-not-true}
use Rattle.floats.proofs.Monotone.{le-not-above, above-highest, below-lowest, le-numbers, not-below-trans, add-order, mul-order}
use Rattle.angles.specs.Angles.{cos_at, sin_at}
use Rattle.angles.proofs.AngleSizes.{at_most_one, cos-sized, sin-sized}
use Rattle.walk.specs.declared.clip.Bounds.{Bounds}
use Rattle.view.specs.Point.{outside_bounds, inside_bounds}
use Rattle.shapes.specs.Drawing.{CircleInDomain}
use Rattle.shapes.proofs.InsideOrOutside.{NumberBounds, point-number, not-outside-inside}

-- ---- a product with the radius lies between those with -1 and 1
not-above-one : (s : Bool) (m : ℕ) (e : ℤ) → m * up e ≤ down e → below false (1 * 1 * down e) s (m * up e * 1) ≡ false
not-above-one true m e h = refl
not-above-one false m e h = le-ltb (1 * 1 * down e) (m * up e * 1) (omega arith)

not-below-minus-one : (s : Bool) (m : ℕ) (e : ℤ) → m * up e ≤ down e → below s (m * up e * 1) true (1 * 1 * down e) ≡ false
not-below-minus-one true m e h = le-ltb (1 * 1 * down e) (m * up e * 1) (omega arith)
not-below-minus-one false m e h = refl

product-most : (r c : Float) → lt (bits 0) r ≡ true → at_most_one c ≡ true → lt (r ⊗ 1·0) (r ⊗ c) ≡ false
unfolding of_bits lt mul
product-most r nan h k = false-not-true k
product-most r (inf s) h k = false-not-true k
product-most nan (fin s n d) h k = false-not-true h
product-most (inf true) (fin s n d) h k = false-not-true h
product-most (inf false) (fin s n d) h k = above-highest (inf false ⊗ fin s n d)
product-most (fin true m e) (fin s n d) h k = false-not-true h
product-most (fin false m e) (fin s n d) h k = mul-order m e false 1 (pos 0) s n d (not-above-one s n d (leb-true (n * up d) (down d) k))

product-least : (r c : Float) → lt (bits 0) r ≡ true → at_most_one c ≡ true → lt (r ⊗ c) (r ⊗ neg 1·0) ≡ false
unfolding of_bits lt mul neg
product-least r nan h k = false-not-true k
product-least r (inf s) h k = false-not-true k
product-least nan (fin s n d) h k = false-not-true h
product-least (inf true) (fin s n d) h k = false-not-true h
product-least (inf false) (fin s n d) h k = below-lowest (inf false ⊗ fin s n d)
product-least (fin true m e) (fin s n d) h k = false-not-true h
product-least (fin false m e) (fin s n d) h k = mul-order m e s n d true 1 (pos 0) (not-below-minus-one s n d (leb-true (n * up d) (down d) k))

-- ---- one axis
module _ (r c x : Float) (h : lt (bits 0) r ≡ true) (k : at_most_one c ≡ true) where
  not-above : (high : Float) → le (mul_add_of r 1·0 x) high ≡ true → lt high (mul_add_of r c x) ≡ false
  not-above high l =
      not-below-trans high (mul_add_of r 1·0 x) (mul_add_of r c x) (le-numbers (mul_add_of r 1·0 x) high l).0 (le-not-above (mul_add_of r 1·0 x) high l)
      (add-order (r ⊗ 1·0) (r ⊗ c) x (product-most r c h k))

  not-below : (low : Float) → le low (mul_add_of r (neg 1·0) x) ≡ true → lt (mul_add_of r c x) low ≡ false
  not-below low l =
      not-below-trans (mul_add_of r c x) (mul_add_of r (neg 1·0) x) low (le-numbers low (mul_add_of r (neg 1·0) x) l).1
      (add-order (r ⊗ c) (r ⊗ neg 1·0) x (product-least r c h k)) (le-not-above low (mul_add_of r (neg 1·0) x) l)

-- ---- and_parts axes
-- the tests of the outermost points
abbrev pub tested : Bounds → Float → Float → Float → Float → Float → Bool
tested b radius left right bottom top = lt (bits 0) radius && (le b.left left && le right b.right) && (le b.bottom bottom && le top b.top)

abbrev Tests : Bounds → Float → Float → Float → Float → Float → Type 0
Tests b radius left right bottom top =
    (lt (bits 0) radius ≡ true) × (((le b.left left ≡ true) × (le right b.right ≡ true)) × ((le b.bottom bottom ≡ true) × (le top b.top ≡ true)))

tests : (b : Bounds) (radius left right bottom top : Float) → tested b radius left right bottom top ≡ true → Tests b radius left right bottom top
tests b radius left right bottom top h =
    let t = and_parts _ _ h in
    let u = and_parts _ _ t.0 in (u.0, (and_parts _ _ u.1, and_parts _ _ t.1))

within : (b : Bounds) (x y : Float) → lt x b.left ≡ false → lt b.right x ≡ false → lt y b.bottom ≡ false → lt b.top y ≡ false → outside_bounds b x y ≡ false
unfolding outside_bounds
within b x y left right bottom top = rw (left, right, bottom, top)

not-outside : (b : Bounds) (x y radius left right bottom top : Float)
    → left ≡ mul_add_of radius (neg 1·0) x → right ≡ mul_add_of radius 1·0 x → bottom ≡ mul_add_of radius (neg 1·0) y → top ≡ mul_add_of radius 1·0 y
    → Tests b radius left right bottom top
    → (angle : ℕ) → angle < 360 → outside_bounds b (mul_add_of radius (cos_at angle) x) (mul_add_of radius (sin_at angle) y) ≡ false
not-outside b x y radius left right bottom top el er eb et t angle a =
    let c = cos-sized angle a in
    let d = sin-sized angle a in
    within b (mul_add_of radius (cos_at angle) x) (mul_add_of radius (sin_at angle) y)
    (not-below radius (cos_at angle) x t.0 c b.left (rw el at t.1.0.0))
    (not-above radius (cos_at angle) x t.0 c b.right (rw er at t.1.0.1))
    (not-below radius (sin_at angle) y t.0 d b.bottom (rw eb at t.1.1.0))
    (not-above radius (sin_at angle) y t.0 d b.top (rw et at t.1.1.1))

-- the tests are with numbers alone
tested-numbers : (b : Bounds) (radius left right bottom top : Float) → Tests b radius left right bottom top → NumberBounds b
tested-numbers b radius left right bottom top t = (
  ((le-numbers b.left left t.1.0.0).0, (le-numbers right b.right t.1.0.1).1),
  ((le-numbers b.bottom bottom t.1.1.0).0, (le-numbers top b.top t.1.1.1).1),
)

pub circle-inside : (b : Bounds) (x y radius left right bottom top : Float) → CircleInDomain x y radius
    → left ≡ mul_add_of radius (neg 1·0) x → right ≡ mul_add_of radius 1·0 x → bottom ≡ mul_add_of radius (neg 1·0) y → top ≡ mul_add_of radius 1·0 y
    → tested b radius left right bottom top ≡ true
    → (angle : ℕ) → angle < 360 → inside_bounds b (mul_add_of radius (cos_at angle) x) (mul_add_of radius (sin_at angle) y) ≡ true
circle-inside b x y radius left right bottom top d el er eb et h angle a =
    let t = tests b radius left right bottom top h in
    not-outside-inside b (mul_add_of radius (cos_at angle) x) (mul_add_of radius (sin_at angle) y) (tested-numbers b radius left right bottom top t)
    (point-number radius (cos_at angle) x d.1.1 (cos-sized angle a) d.0) (point-number radius (sin_at angle) y d.1.1 (sin-sized angle a) d.1.0)
    (not-outside b x y radius left right bottom top el er eb et t angle a)

-- for the function that tests the outermost points
pub ruleset points_inside = (circle-inside)
