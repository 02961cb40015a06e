-- In the domain the clamp to resolution - 1 never acts, and a label within the bounds stands inside the area: the quotient is at most a quarter above the number of dots or cells less one.
pub mod Bounded
pub mod Quotient
pub mod Halves
pub mod HalfMore
pub mod Places
pub mod Axis
use Rattle.std.proofs.Common.{◌≡◌, ℕ, zero, suc, ◌+◌, ◌-◌, ◌*◌, ◌^◌, ◌<◌, ◌≤◌, min, Bool, true, false, cond, ◌&&◌, ◌||◌, ◌⊎◌, ℤ, Option, Some, None, sym, refl, ◌∙◌, subst, inl, inr, zero-le, le_trans, le_of_eq, mul-le-mul_right, zero-lt-suc, eq-zero-or-pos, eq-or-lt_of_le, mul-le-mul_left, mul-pos, zero-mul, arith, lit<, lit≤, pow_pos, lt-ltb}
use native.Mathlib.Nat.{eq_of_mul-eq-mul_right}
use lib.Ieee.{Float, nan, inf, fin, binary64, up, down, round, add, sub, mul, div, lt, le, below, level, of_int, of_bits}
use lib.Ieee.Fits.{up_pos}
use lib.Ieee.Exact.{HasValue}
use lib.Ieee.Back.{round_whole}
use lib.Ieee.Positive.{first_pos}
use Rattle.std.proofs.lemmas.Bool.{and_parts, or_parts}
use Rattle.floats.specs.Arithmetic.{◌⊖◌, ◌⊗◌, ◌⊘◌, bits}
use Rattle.floats.specs.Rounding.{IsUnits, Finite}
use Rattle.floats.specs.Truncation.{as_signed, as_unsigned}
use Rattle.floats.specs.Methods.{abs_of}
use Rattle.floats.specs.Polyfills.{round_of, 1·0}
use Rattle.floats.specs.Domain.{in_domain}
use Rattle.floats.proofs.Cases.{true-not-false, false-not-true}
use Rattle.floats.proofs.Monotone.{le-not-above}
use Rattle.walk.specs.declared.clip.Bounds.{Bounds}
use Rattle.view.specs.Limits.{max_columns, max_rows}
use Rattle.view.specs.Point.{whole, outside_bounds, flat_bounds, scaled_of, point_of, truncated_of, inside_bounds, label_place}
use Rattle.view.specs.declared.point.View.{View}
use Rattle.view.proofs.ClampIdle.Bounded.{one, quarter, AtMost, truncated, under_next}
use Rattle.view.proofs.ClampIdle.Quotient.{product-bound, quotient-bound}
use Rattle.view.proofs.ClampIdle.Halves.{round-cut}
use Rattle.view.proofs.ClampIdle.HalfMore.{FromMinusQuarter, from-units}
use Rattle.view.proofs.ClampIdle.Places.{value-stands, difference}
use Rattle.view.proofs.ClampIdle.Axis.{Part, Distances, distances}

-- ---- whole numbers
whole-value : (k : ℕ) → k ≤ 400 → HasValue (whole k) false k 1
unfolding of_int
whole-value k h = round_whole binary64 false k (le_trans h (lit≤ tt))

whole-less-one : (dots : ℕ) → 1 ≤ dots → dots ≤ 400 → whole dots ⊖ 1·0 ≡ whole (dots - 1)
unfolding of_int of_bits sub
whole-less-one dots some few = elim (eq-or-lt_of_le some) [
  | inl e ↦ subst (λ (n : ℕ). whole n ⊖ 1·0 ≡ whole (n - 1)) e refl
  | inr more ↦
      let d = difference (whole dots) 1·0 1 0 dots 1 (lit< tt) (value-stands (whole dots) dots 1 (whole-value dots few)) (1, refl, refl) some in
      d.is ∙ positive d.sign (dots - 1) d.zero-only (omega arith)
]
  where
    positive : (s : Bool) (n : ℕ) → (s ≡ true → n ≡ 0) → 0 < n → round binary64 s n 1 ≡ round binary64 false n 1
    positive true n f h = let z = f refl in absurd (omega arith)
    positive false n f h = refl

-- ---- a part of a width, times k and over the width
module _ {distance width : Float} (p : Part distance width) (k : ℕ) (few : k ≤ 399) where
  product : (n : ℕ) × IsUnits (distance ⊗ whole k) p.sign n × (4 * n ≤ (4 * k + 1) * p.width)
  product =
      let a = product-bound distance (whole k) p.sign p.digits p.exponent k p.few (le_trans p.low p.small) few p.is-part (whole-value k (le_trans few (lit≤ tt))) in
      (a.0, a.1, le_trans a.2 (mul-le-mul_left (4 * k + 1) p.low))

  quotient : (w : Float) → IsUnits w false p.width → 0 < p.width → AtMost (distance ⊗ whole k ⊘ w) p.sign ((4 * k + 1) * quarter)
  quotient w h W = let a = product in quotient-bound (distance ⊗ whole k) w p.sign a.0 p.width k W a.2 few a.1 h

  -- not below -1/4: the quotient has the sign of the part, and a negative part is 0
  quotient-from : (w : Float) → IsUnits w false p.width → 0 < p.width → FromMinusQuarter (distance ⊗ whole k ⊘ w)
  quotient-from w h W = go p.sign refl
    where
      none : (n z : ℕ) → 4 * n ≤ (4 * k + 1) * z → z ≡ 0 → 4 * n ≤ (4 * 0 + 1) * p.width
      none n z l e = let g : 4 * n ≤ (4 * k + 1) * 0 = rw e at l in omega arith

      go : (s : Bool) → p.sign ≡ s → FromMinusQuarter (distance ⊗ whole k ⊘ w)
      go false e = let a = quotient w h W in from-units (distance ⊗ whole k ⊘ w) p.sign (a.digits * 2 ^ a.exponent) a.is (λ t. false-not-true (sym e ∙ t))
      go true e =
          let n = product-bound distance (whole k) p.sign p.digits p.exponent k p.few (le_trans p.low p.small) few p.is-part (whole-value k (le_trans few (lit≤ tt))) in
          let a = quotient-bound (distance ⊗ whole k) w p.sign n.0 p.width 0 W (none n.0 (p.digits * 2 ^ p.exponent) n.2 (p.zero-only e)) (lit≤ tt) n.1 h in
          from-units (distance ⊗ whole k ⊘ w) p.sign (a.digits * 2 ^ a.exponent) a.is (λ t. a.low)

-- ---- a width above 0
above_zero : (w : Float) (s : Bool) (n : ℕ) → IsUnits w s n → le w (bits 0) ≡ false → IsUnits w false n × (0 < n)
unfolding le of_bits
above_zero nan s n h l = absurd h
above_zero (inf t) s n h l = absurd h
above_zero (fin t m e) s n h l =
    let a = sized t (m * up e) (down e) l in
    ((a.0, h.1), first_pos n (down e) (subst (λ (x : ℕ). 0 < x) h.1 (mul-pos a.1 (pow_pos 1074))))
  where
    sized : (b : Bool) (v d : ℕ) → below b (v * 1) false (0 * d) || level b (v * 1) false (0 * d) ≡ false → (b ≡ false) × (0 < v)
    sized true zero d g = true-not-false (simp zero-mul at g)
    sized true (suc v) d g = true-not-false (simp (lt-ltb 0 (suc v * 1 + 0 * d) (omega arith)) at g)
    sized false zero d g = true-not-false (simp zero-mul at g)
    sized false (suc v) d g = (refl, zero-lt-suc v)

-- the quotient in `scaled_of` before the minimum
abbrev pub unclamped_of : Float → ℕ → Float → ℕ
unclamped_of distance dots width = as_unsigned 64 (round_of (distance ⊗ (whole dots ⊖ 1·0) ⊘ width))

dots-fit : (distance width : Float) (dots : ℕ) → Part distance width → le width (bits 0) ≡ false → 1 ≤ dots → dots ≤ 400 → unclamped_of distance dots width ≤ dots - 1
dots-fit distance width dots p wide some few =
    let w = above_zero width p.all-sign p.width p.is_all wide in
    let a = quotient p (dots - 1) (omega arith) width w.0 w.1 in
    rw (whole-less-one dots some few) (round-cut (distance ⊗ whole (dots - 1) ⊘ width) p.sign (a.digits * 2 ^ a.exponent) (dots - 1) a.is a.low (omega arith))

-- the quotient itself
abbrev pub quotient_of : Float → ℕ → Float → Float
quotient_of distance dots width = distance ⊗ (whole dots ⊖ 1·0) ⊘ width

dots-from : (distance width : Float) (dots : ℕ) → Part distance width → le width (bits 0) ≡ false → 1 ≤ dots → dots ≤ 400 → FromMinusQuarter (quotient_of distance dots width)
dots-from distance width dots p wide some few =
    let w = above_zero width p.all-sign p.width p.is_all wide in
    rw (whole-less-one dots some few) (quotient-from p (dots - 1) (omega arith) width w.0 w.1)

-- ---- a point between bounds of the domain is finite, or a NaN
nan-or-finite : (low v high : Float) → in_domain low ≡ true → in_domain high ≡ true → lt v low ≡ false → lt high v ≡ false → (v ≡ nan) ⊎ Finite v
unfolding in_domain lt
nan-or-finite low nan high dl dh lv vh = inl refl
nan-or-finite nan (inf true) high dl dh lv vh = false-not-true dl
nan-or-finite (inf s) (inf true) high dl dh lv vh = false-not-true dl
nan-or-finite (fin s m e) (inf true) high dl dh lv vh = true-not-false lv
nan-or-finite low (inf false) nan dl dh lv vh = false-not-true dh
nan-or-finite low (inf false) (inf s) dl dh lv vh = false-not-true dh
nan-or-finite low (inf false) (fin s m e) dl dh lv vh = true-not-false vh
nan-or-finite low (fin s m e) high dl dh lv vh = inr tt

from-nan : (x : Float) → x ⊖ nan ≡ nan
unfolding sub
from-nan nan = refl
from-nan (inf s) = refl
from-nan (fin s m e) = refl

nan-fits : (dots : ℕ) (width : Float) (n : ℕ) → unclamped_of nan dots width ≤ n
unfolding mul div add round_of as_signed as_unsigned of_int
nan-fits dots width n = zero-le

-- ---- one axis
module _ (low v high : Float) (dots : ℕ) (dl : in_domain low ≡ true) (dh : in_domain high ≡ true) (lv : lt v low ≡ false) (vh : lt high v ≡ false)
    (wide : le (high ⊖ low) (bits 0) ≡ false) (some : 1 ≤ dots) (few : dots ≤ 400) where
  rising-fits : unclamped_of (v ⊖ low) dots (high ⊖ low) ≤ dots - 1
  unfolding sub
  rising-fits = elim (nan-or-finite low v high dl dh lv vh) [
    | inl e ↦ rw e (nan-fits dots (high ⊖ low) (dots - 1))
    | inr f ↦ dots-fit (v ⊖ low) (high ⊖ low) dots (distances low v high dl dh f lv vh).from_low wide some few
  ]

  falling-fits : unclamped_of (high ⊖ v) dots (high ⊖ low) ≤ dots - 1
  falling-fits = elim (nan-or-finite low v high dl dh lv vh) [
    | inl e ↦ rw (e, from-nan high) (nan-fits dots (high ⊖ low) (dots - 1))
    | inr f ↦ dots-fit (high ⊖ v) (high ⊖ low) dots (distances low v high dl dh f lv vh).from-high wide some few
  ]

-- ---- bounds of the domain
pub record InDomain (b : Bounds) : Type 0 where
  pub left : in_domain b.left ≡ true
  pub right : in_domain b.right ≡ true
  pub bottom : in_domain b.bottom ≡ true
  pub top : in_domain b.top ≡ true

-- a point that is not outside, with coordinates that may be NaN
record Within (b : Bounds) (x y : Float) : Type 0 where
  left : lt x b.left ≡ false
  right : lt b.right x ≡ false
  bottom : lt y b.bottom ≡ false
  top : lt b.top y ≡ false

within : (b : Bounds) (x y : Float) → outside_bounds b x y ≡ false → Within b x y
unfolding outside_bounds
within b x y h =
    let t = or_parts _ _ h in
    let u = or_parts _ _ t.0 in
    let s = or_parts _ _ u.0 in
    record { left = s.0; right = s.1; bottom = u.1; top = t.1 }

wide_parts : (b : Bounds) → flat_bounds b ≡ false → (le (b.right ⊖ b.left) (bits 0) ≡ false) × (le (b.top ⊖ b.bottom) (bits 0) ≡ false)
unfolding flat_bounds
wide_parts b wide = or_parts _ _ wide

-- ---- the clamp never acts
same-min : (q k : ℕ) → q ≤ k → min q k ≡ q
same-min q k h = omega arith

clamp-idle : (distance width : Float) (dots : ℕ) → unclamped_of distance dots width ≤ dots - 1 → scaled_of distance dots width ≡ unclamped_of distance dots width
unfolding scaled_of
clamp-idle distance width dots h = same-min (unclamped_of distance dots width) (dots - 1) h

module _ (b : Bounds) (x y : Float) (dots : ℕ) (d : InDomain b) (inside : outside_bounds b x y ≡ false) (wide : flat_bounds b ≡ false) (some : 1 ≤ dots) (few : dots ≤ 400) where
  pub column_fits : unclamped_of (x ⊖ b.left) dots (b.right ⊖ b.left) ≤ dots - 1
  column_fits =
      let w = within b x y inside in
      rising-fits b.left x b.right dots d.left d.right w.left w.right (wide_parts b wide).0 some few

  pub row_fits : unclamped_of (b.top ⊖ y) dots (b.top ⊖ b.bottom) ≤ dots - 1
  row_fits =
      let w = within b x y inside in
      falling-fits b.bottom y b.top dots d.bottom d.top w.bottom w.top (wide_parts b wide).1 some few

  pub clamp-idle-x : scaled_of (x ⊖ b.left) dots (b.right ⊖ b.left) ≡ unclamped_of (x ⊖ b.left) dots (b.right ⊖ b.left)
  clamp-idle-x = clamp-idle (x ⊖ b.left) (b.right ⊖ b.left) dots column_fits

  pub clamp-idle-y : scaled_of (b.top ⊖ y) dots (b.top ⊖ b.bottom) ≡ unclamped_of (b.top ⊖ y) dots (b.top ⊖ b.bottom)
  clamp-idle-y = clamp-idle (b.top ⊖ y) (b.top ⊖ b.bottom) dots row_fits

-- so a point is found without it
abbrev pub unclamped_point : View → Float → Float → Option (ℕ × ℕ)
unclamped_point v x y =
    cond (outside_bounds v.bounds x y || flat_bounds v.bounds) None
    (Some (unclamped_of (x ⊖ v.bounds.left) v.width (v.bounds.right ⊖ v.bounds.left), unclamped_of (v.bounds.top ⊖ y) v.height (v.bounds.top ⊖ v.bounds.bottom)))

pub point-unclamped : (v : View) (x y : Float) → InDomain v.bounds → 1 ≤ v.width → v.width ≤ 400 → 1 ≤ v.height → v.height ≤ 400 → point_of v x y ≡ unclamped_point v x y
unfolding point_of
point-unclamped v x y d w1 w2 h1 h2 = go (outside_bounds v.bounds x y || flat_bounds v.bounds) refl
  where
    b : Bounds
    b = v.bounds

    go : (t : Bool) → outside_bounds b x y || flat_bounds b ≡ t
        → cond {A = Option (ℕ × ℕ)} t None (Some (scaled_of (x ⊖ b.left) v.width (b.right ⊖ b.left), scaled_of (b.top ⊖ y) v.height (b.top ⊖ b.bottom)))
        ≡ cond t None (Some (unclamped_of (x ⊖ b.left) v.width (b.right ⊖ b.left), unclamped_of (b.top ⊖ y) v.height (b.top ⊖ b.bottom)))
    go true h = refl
    go false h =
        let (i, w) = or_parts _ _ h in
        rw (clamp-idle-x b x y v.width d i w w1 w2, clamp-idle-y b x y v.height d i w h1 h2)

-- ---- a label
abs-units : (w : Float) (s : Bool) (n : ℕ) → IsUnits w s n → IsUnits (abs_of w) false n
unfolding abs_of
abs-units nan s n h = h
abs-units (inf t) s n h = h
abs-units (fin t m e) s n h = (refl, h.1)

-- over a width of 0 the quotient is a NaN
zero-over-zero : (w : ℕ) (x y : Float) (s t : Bool) → IsUnits x s 0 → IsUnits y t 0 → as_unsigned w (x ⊘ y) ≡ 0
unfolding div as_unsigned
zero-over-zero w nan y s t h i = absurd h
zero-over-zero w (inf u) y s t h i = absurd h
zero-over-zero w (fin u m e) nan s t h i = absurd i
zero-over-zero w (fin u m e) (inf v) s t h i = absurd i
zero-over-zero w (fin u m e) (fin v n g) s t h i = rw (is_zero m e h.1, is_zero n g i.1)
  where
    is_zero : (k : ℕ) (f : ℤ) → k * up f * one ≡ 0 * down f → k ≡ 0
    is_zero k f j =
        let v : k * up f ≡ 0 = eq_of_mul-eq-mul_right one (pow_pos 1074) (k * up f) 0 (j ∙ zero-mul (down f)) in
        eq_of_mul-eq-mul_right (up f) (up_pos f) k 0 (v ∙ sym (zero-mul (up f)))

cells_fit : (distance width : Float) (k : ℕ) → Part distance width → k ≤ 399 → as_unsigned 16 (distance ⊗ whole k ⊘ abs_of width) ≤ k
cells_fit distance width k p few = elim (eq-zero-or-pos p.width) [
  | inl z ↦
      let a = product p k few in
      let x = subst (λ (n : ℕ). IsUnits (distance ⊗ whole k) p.sign n) (none a.0 p.width k a.2 z) a.1 in
      let y = subst (λ (n : ℕ). IsUnits (abs_of width) false n) z (abs-units width p.all-sign p.width p.is_all) in
      le_trans (le_of_eq (zero-over-zero 16 (distance ⊗ whole k) (abs_of width) p.sign false x y)) zero-le
  | inr W ↦
      let a = quotient p k few (abs_of width) (abs-units width p.all-sign p.width p.is_all) W in
      truncated 16 (distance ⊗ whole k ⊘ abs_of width) p.sign (a.digits * 2 ^ a.exponent) k a.is (under_next (a.digits * 2 ^ a.exponent) k (le_trans a.low (mul-le-mul_right quarter (more k))))
]
  where
    none : (n w j : ℕ) → 4 * n ≤ (4 * j + 1) * w → w ≡ 0 → n ≡ 0
    none n w j h z = let g : 4 * n ≤ (4 * j + 1) * 0 = rw z at h in omega arith

    more : (j : ℕ) → 4 * j + 1 ≤ 4 * j + 3
    more j = omega arith

-- a point that is at least one bound and at most the other is finite
finite-between : (low v high : Float) → in_domain low ≡ true → in_domain high ≡ true → le low v ≡ true → le v high ≡ true → Finite v
unfolding le
finite-between low v high dl dh lv vh = elim (nan-or-finite low v high dl dh (le-not-above low v lv) (le-not-above v high vh)) [
  | inl e ↦ false-not-true (rw e at vh)
  | inr f ↦ f
]

module _ (low v high : Float) (cells : ℕ) (dl : in_domain low ≡ true) (dh : in_domain high ≡ true) (lv : le low v ≡ true) (vh : le v high ≡ true) (some : 1 ≤ cells) (few : cells ≤ 400) where
  between : Distances low v high
  between = distances low v high dl dh (finite-between low v high dl dh lv vh) (le-not-above low v lv) (le-not-above v high vh)

  rising_inside : truncated_of (v ⊖ low) cells (high ⊖ low) < cells
  unfolding truncated_of
  rising_inside = let h = cells_fit (v ⊖ low) (high ⊖ low) (cells - 1) between.from_low (omega arith) in omega arith

  falling_inside : truncated_of (high ⊖ v) cells (high ⊖ low) < cells
  unfolding truncated_of
  falling_inside = let h = cells_fit (high ⊖ v) (high ⊖ low) (cells - 1) between.from-high (omega arith) in omega arith

  module _ (wide : le (high ⊖ low) (bits 0) ≡ false) where
    rising-from : FromMinusQuarter (quotient_of (v ⊖ low) cells (high ⊖ low))
    rising-from = dots-from (v ⊖ low) (high ⊖ low) cells between.from_low wide some few

    falling-from : FromMinusQuarter (quotient_of (high ⊖ v) cells (high ⊖ low))
    falling-from = dots-from (high ⊖ v) (high ⊖ low) cells between.from-high wide some few

-- a point inside the bounds
pub record Inside (b : Bounds) (x y : Float) : Type 0 where
  pub left : le b.left x ≡ true
  pub right : le x b.right ≡ true
  pub bottom : le b.bottom y ≡ true
  pub top : le y b.top ≡ true

pub inside : (b : Bounds) (x y : Float) → inside_bounds b x y ≡ true → Inside b x y
unfolding inside_bounds
inside b x y h =
    let t = and_parts _ _ h in
    let u = and_parts _ _ t.0 in
    let s = and_parts _ _ u.0 in
    record { left = s.0; right = s.1; bottom = t.1; top = u.1 }

module _ (b : Bounds) (x y : Float) (dots : ℕ) (d : InDomain b) (i : Inside b x y) (wide : flat_bounds b ≡ false) (some : 1 ≤ dots) (few : dots ≤ 400) where
  pub column-from : FromMinusQuarter (quotient_of (x ⊖ b.left) dots (b.right ⊖ b.left))
  column-from = rising-from b.left x b.right dots d.left d.right i.left i.right some few (wide_parts b wide).0

  pub row_from : FromMinusQuarter (quotient_of (b.top ⊖ y) dots (b.top ⊖ b.bottom))
  row_from = falling-from b.bottom y b.top dots d.bottom d.top i.bottom i.top some few (wide_parts b wide).1

abbrev InArea : ℕ → ℕ → Option (ℕ × ℕ) → Type 0
InArea columns rows (Some (c, r)) = (c < columns) × (r < rows)
InArea columns rows None = Unit {0}

module _ (b : Bounds) (columns rows : ℕ) (d : InDomain b) (some-columns : 1 ≤ columns) (few-columns : columns ≤ max_columns) (some-rows : 1 ≤ rows) (few-rows : rows ≤ max_rows) where
  place_inside : (x y : Float) → InArea columns rows (label_place b columns rows x y)
  unfolding label_place
  place_inside x y = go (inside_bounds b x y) refl
    where
      go : (t : Bool) → inside_bounds b x y ≡ t
          → InArea columns rows (cond t (Some (truncated_of (x ⊖ b.left) columns (b.right ⊖ b.left), truncated_of (b.top ⊖ y) rows (b.top ⊖ b.bottom))) None)
      go false h = tt
      go true h =
          let i = inside b x y h in (
            rising_inside b.left x b.right columns d.left d.right i.left i.right some-columns (le_trans few-columns (lit≤ tt)),
            falling_inside b.bottom y b.top rows d.bottom d.top i.bottom i.top some-rows (le_trans few-rows (lit≤ tt)),
          )

  pub label_inside : (x y : Float) (c r : ℕ) → label_place b columns rows x y ≡ Some (c, r) → (c < columns) × (r < rows)
  label_inside x y c r e = subst (λ (p : Option (ℕ × ℕ)). InArea columns rows p) e (place_inside x y)
