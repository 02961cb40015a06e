-- `round` and then `as u64` from the value with half a one added: 0 below 1 and for a NaN, and from 1 on the sum's whole part.
-- Below 0 `round` takes the half away, but then both are 0: the sum is at most half a one.
use Rattle.std.proofs.Common.{◌≡◌, ℕ, zero, suc, ◌-◌, ◌*◌, ◌^◌, ◌<◌, ◌≤◌, min, Bool, true, false, cond, ◌&&◌, eqb, ltb, ℤ, pos, negsuc, neg_ℤ, sym, refl, ap, ◌∙◌, subst, inl, inr, le_trans, le_of_eq, lt_of_lt_of_le, lt_of_le_of_lt, mul-le-mul_right, mul_assoc, mul_comm, div-lt_iff_lt-mul, lt_of_mul-lt-mul_right, mul-lt-mul_of_pos_right, mul-pos, one-mul, le-div_iff_mul-le, mul-one, mul_right_comm, le_of_mul-le-mul_right, mul_left_comm, arith, lit<, lit≤, le→leb, pow_pos, ltb-false, ltb-true, ne_eqb, leb-false}
use lib.Ieee.{Float, nan, inf, fin, binary64, up, down, lt, le, add, neg, of_int, of_bits, in_float}
use lib.Ieee.Fits.{down_pos}
use lib.Ieee.Exact.{HasValue}
use lib.Ieee.Back.{round_whole, unsigned_back}
use borrow.Author.Tests.{lt-leb}
use Rattle.std.proofs.lemmas.Bool.{cases_lt}
use Rattle.floats.specs.Arithmetic.{◌⊕◌}
use Rattle.floats.specs.Rounding.{dist, IsUnits, midway, Rounded, Rounds, fraction}
use Rattle.floats.specs.Truncation.{whole_part, as_signed, as_unsigned, whole_of}
use Rattle.floats.specs.Methods.{abs_of}
use Rattle.floats.specs.Polyfills.{round_of, 0·5, 1·0}
use Rattle.floats.proofs.Cases.{true-not-false, false-not-true}
use Rattle.floats.proofs.Truncation.{unsigned_is}
use Rattle.floats.proofs.InDomain.{at_most}
use Rattle.floats.proofs.Rounding.Operations.{sum-once, integer-once}
use Rattle.floats.proofs.Numbers.{Signed, rounded-signed}

-- 1, and a half, in units
abbrev one : ℕ
one = 2 ^ 1074

abbrev half : ℕ
half = 2 ^ 1073

-- ---- `as i64 as f64 as u64`
cut-signed : (r : Float) → Signed r true → as_unsigned 64 r ≡ 0
unfolding as_unsigned
cut-signed nan h = absurd h
cut-signed (inf true) h = refl
cut-signed (inf false) h = false-not-true h
cut-signed (fin true m e) h = refl
cut-signed (fin false m e) h = false-not-true h

pub cut-negative : (n : ℕ) → as_unsigned 64 (of_int binary64 (neg_ℤ (pos n))) ≡ 0
unfolding as_unsigned of_int
cut-negative zero = refl
cut-negative (suc n) = cut-signed (of_int binary64 (negsuc n)) (rounded-signed _ true (suc n) 1 (integer-once (negsuc n)))

-- a negative number
below-zero : (u : Float) → Signed u true → as_unsigned 64 (whole_of u) ≡ 0
unfolding as_signed
below-zero nan h = absurd h
below-zero (inf true) h = cut-negative (2 ^ 63)
below-zero (inf false) h = false-not-true h
below-zero (fin true m e) h = cut-negative (min (whole_part m e) (2 ^ 63))
below-zero (fin false m e) h = false-not-true h

-- a small whole number comes back
pub back : (n : ℕ) → n < 2 ^ 16 → as_unsigned 64 (of_int binary64 (pos n)) ≡ n
unfolding in_float
back n h = sym (unsigned_is 64 (of_int binary64 (pos n))) ∙ (unsigned_back binary64 64 n (le→leb n (2 ^ 53) (small n h)) (lt_of_lt_of_le h (lit≤ tt))).1
  where
    small : (x : ℕ) → x < 2 ^ 16 → x ≤ 2 ^ 53
    small x g = omega arith

-- a large one does not come back below a small one that it reaches
reached : (k n : ℕ) → k < 2 ^ 16 → k ≤ n → k ≤ as_unsigned 64 (of_int binary64 (pos n))
unfolding as_unsigned
reached k n K h = go (of_int binary64 (pos n)) (integer-once (pos n))
  where
    not-under : (v c x : ℕ) → c ≤ x → dist v x ≤ dist c x → c ≤ v
    not-under v c x l d = omega arith

    over-one : (x y : ℕ) → x * 1 ≤ y * 1 → x ≤ y
    over-one x y l = omega arith

    few : (x : ℕ) → x < 2 ^ 16 → x < 2 ^ 53
    few x g = omega arith

    capped : (x w : ℕ) → x < 2 ^ 16 → x ≤ w → x ≤ min w (2 ^ 64 - 1)
    capped x w g l = omega arith

    finite : (r : Float) (v : ℕ) → IsUnits r false v → k * one ≤ v → k ≤ as_unsigned 64 r
    finite nan v i l = absurd i
    finite (inf t) v i l = absurd i
    finite (fin true m e) v i l = true-not-false i.0
    finite (fin false m e) v i l =
        capped k (whole_part m e) K
        ((le-div_iff_mul-le (down_pos e)).1
        (le_of_mul-le-mul_right (le_trans (le_of_eq (mul_right_comm k (down e) one)) (le_trans (mul-le-mul_right (down e) l) (le_of_eq (sym i.1)))) (pow_pos 1074)))

    go : (r : Float) → Rounded r false n 1 → k ≤ as_unsigned 64 r
    go r R = elim (cases_lt (n * one) (midway * 1)) [
      | inl l ↦
          let f = R.within l in
          let v = f.0 * 2 ^ f.1 in
          finite r v f.2 (over-one (k * one) v (not-under (v * 1) (k * one * 1) (n * one) (le_trans (le_of_eq (mul-one (k * one))) (mul-le-mul_right one h)) (f.3.near k 1074 (few k K))))
      | inr l ↦ subst (λ (x : Float). k ≤ as_unsigned 64 x) (sym (R.over l)) (capped k (2 ^ 64 - 1) K (omega arith))
    ]

-- ---- a sum below 1
zero-cut : as_unsigned 64 (of_int binary64 (pos (min 0 (2 ^ 63 - 1)))) ≡ 0
unfolding as_unsigned of_int
zero-cut = refl

below_one : (u : Float) → Signed u false → le 1·0 u ≡ false → as_unsigned 64 (whole_of u) ≡ 0
unfolding as_signed le of_bits
below_one nan s h = absurd s
below_one (inf true) s h = true-not-false s
below_one (inf false) s h = true-not-false h
below_one (fin true m e) s h = true-not-false s
below_one (fin false m e) s h = ap (λ (n : ℕ). as_unsigned 64 (of_int binary64 (pos (min n (2 ^ 63 - 1))))) none ∙ zero-cut
  where
    zero-only : (n : ℕ) → n < 1 → n ≡ 0
    zero-only n l = omega arith

    less : (v d : ℕ) → v * 1 < 1 * d → v < 1 * d
    less v d l = omega arith

    none : whole_part m e ≡ 0
    none = zero-only (whole_part m e) ((div-lt_iff_lt-mul (down_pos e)).1 (less (m * up e) (down e) (leb-false (1 * down e) (m * up e * 1) (sym (at_most (1 * down e) (m * up e * 1)) ∙ h))))

-- ---- a sum against a small whole number y
below-whole : (u y : Float) (n : ℕ) → n < 2 ^ 16 → Signed u false → HasValue y false n 1 → lt u y ≡ true → (as_unsigned 64 (whole_of u) ≡ as_unsigned 64 u) × (as_unsigned 64 u < n)
unfolding as_signed as_unsigned lt
below-whole nan y n N s v h = absurd s
below-whole (inf t) nan n N s v h = absurd v
below-whole (inf t) (inf r) n N s v h = absurd v
below-whole (inf true) (fin r b g) n N s v h = true-not-false s
below-whole (inf false) (fin r b g) n N s v h = false-not-true h
below-whole (fin t m e) nan n N s v h = absurd v
below-whole (fin t m e) (inf r) n N s v h = absurd v
below-whole (fin true m e) (fin r b g) n N s v h = true-not-false s
below-whole (fin false m e) (fin true b g) n N s v h = true-not-false v.0
below-whole (fin false m e) (fin false b g) n N s v h =
    let w = whole_part m e in
    let l : w < n = (div-lt_iff_lt-mul (down_pos e)).1 (under (m * up e) (down e) (b * up g) (down g) n v.1 (ltb-true (m * up e * down g) (b * up g * down e) h)) in
    let a : min w (2 ^ 63 - 1) ≡ w = kept w n (2 ^ 63 - 1) l N (lit≤ tt) in
    let z : min w (2 ^ 64 - 1) ≡ w = kept w n (2 ^ 64 - 1) l N (lit≤ tt) in (
      ap (λ (x : ℕ). as_unsigned 64 (of_int binary64 (pos x))) a ∙ back w (less w n l N) ∙ sym z,
      subst (λ (x : ℕ). x < n) (sym z) l,
    )
  where
    under : (x d y g n : ℕ) → y * 1 ≡ n * g → x * g < y * d → x < n * d
    under x d y g n q l = lt_of_mul-lt-mul_right g (lt_of_lt_of_le l (le_of_eq (ap (λ (k : ℕ). k * d) (sym (mul-one y) ∙ q) ∙ mul_right_comm n g d)))

    less : (w n : ℕ) → w < n → n < 2 ^ 16 → w < 2 ^ 16
    less w n l N = omega arith

    kept : (w n c : ℕ) → w < n → n < 2 ^ 16 → 2 ^ 16 ≤ c → min w c ≡ w
    kept w n c l N C = omega arith

from-whole : (u y : Float) (n : ℕ) → n < 2 ^ 16 → Signed u false → HasValue y false n 1 → lt u y ≡ false → n ≤ as_unsigned 64 (whole_of u)
unfolding as_signed lt
from-whole nan y n N s v h = absurd s
from-whole (inf true) y n N s v h = true-not-false s
from-whole (inf false) y n N s v h = reached n (2 ^ 63 - 1) N (room n N)
  where
    room : (x : ℕ) → x < 2 ^ 16 → x ≤ 2 ^ 63 - 1
    room x l = omega arith
from-whole (fin t m e) nan n N s v h = absurd v
from-whole (fin t m e) (inf r) n N s v h = absurd v
from-whole (fin true m e) (fin r b g) n N s v h = true-not-false s
from-whole (fin false m e) (fin true b g) n N s v h = true-not-false v.0
from-whole (fin false m e) (fin false b g) n N s v h =
    reached n (min (whole_part m e) (2 ^ 63 - 1)) N
    (capped n (whole_part m e) N ((le-div_iff_mul-le (down_pos e)).1 (over (m * up e) (down e) (b * up g) (down g) n (down_pos g) v.1 (ltb-false (m * up e * down g) (b * up g * down e) h))))
  where
    over : (x d y g n : ℕ) → 0 < g → y * 1 ≡ n * g → y * d ≤ x * g → n * d ≤ x
    over x d y g n G q l = le_of_mul-le-mul_right (le_trans (le_of_eq (mul_right_comm n d g ∙ ap (λ (k : ℕ). k * d) (sym q ∙ mul-one y))) l) G

    capped : (x w : ℕ) → x < 2 ^ 16 → x ≤ w → x ≤ min w (2 ^ 63 - 1)
    capped x w l g = omega arith

-- ---- half a one more than a negative number is below 1
negative-under-one : (r : Float) → Signed r true → le 1·0 r ≡ false
unfolding le of_bits
negative-under-one nan h = refl
negative-under-one (inf true) h = refl
negative-under-one (inf false) h = false-not-true h
negative-under-one (fin true m e) h = and-false (eqb (1 * down e) (m * up e * 1)) (eqb (1 * down e) 0) (ne_eqb (1 * down e) 0 (λ z. some (down e) (down_pos e) z))
  where
    and-false : (x y : Bool) → y ≡ false → x && y ≡ false
    and-false true y g = g
    and-false false y g = refl

    some : (d : ℕ) → 0 < d → 1 * d ≡ 0 → ⊥
    some d D z = omega arith
negative-under-one (fin false m e) h = false-not-true h

half-under-one : (r : Float) (n : ℕ) → IsUnits r false n → n ≤ half → le 1·0 r ≡ false
unfolding le of_bits
half-under-one nan n h l = refl
half-under-one (inf t) n h l = absurd h
half-under-one (fin true m e) n h l = true-not-false h.0
half-under-one (fin false m e) n h l = at_most (1 * down e) (m * up e * 1) ∙ lt-leb (1 * down e) (m * up e * 1) (less (m * up e) (down e) (down_pos e) (halves (m * up e) (down e) half n (pow_pos 1073) h.1 l))
  where
    halves : (v d u n : ℕ) → 0 < u → v * (u * 2) ≡ n * d → n ≤ u → v * 2 ≤ d
    halves v d u n U q g = le_of_mul-le-mul_right (le_trans (le_of_eq (turned ∙ q)) (le_trans (mul-le-mul_right d g) (le_of_eq (mul_comm u d)))) U
      where
        turned : v * 2 * u ≡ v * (u * 2)
        turned = simp (mul_assoc, mul_comm, mul_left_comm)

    less : (v d : ℕ) → 0 < d → v * 2 ≤ d → v * 1 < 1 * d
    less v d D g = omega arith

rounded-half : (r : Float) (num den : ℕ) → 0 < den → num * 2 ≤ den → Rounded r false num den → le 1·0 r ≡ false
rounded-half r num den D h R =
    let c : num * one ≤ 1 * half * den = crosswise num den half h in
    let f = R.within (lt_of_le_of_lt c (mul-lt-mul_of_pos_right (lit< tt) D)) in
    let v = f.0 * 2 ^ f.1 in
    half-under-one r v f.2 (le_of_mul-le-mul_right (not-past (v * den) (1 * half * den) (num * one) c (f.3.near 1 1073 (lit< tt))) D)
  where
    not-past : (x c n : ℕ) → n ≤ c → dist x n ≤ dist c n → x ≤ c
    not-past x c n l d = omega arith

    crosswise : (a d u : ℕ) → a * 2 ≤ d → a * (u * 2) ≤ 1 * u * d
    crosswise a d u g = le_trans (le_of_eq left) (le_trans (mul-le-mul_right u g) (le_of_eq right))
      where
        left : a * (u * 2) ≡ a * 2 * u
        left = simp (mul_assoc, mul_comm, mul_left_comm)

        right : d * u ≡ 1 * u * d
        right = simp (one-mul, mul_comm)

negative-sum : (m : ℕ) (e : ℤ) → le 1·0 (fin true m e ⊕ 0·5) ≡ false
unfolding of_bits
negative-sum m e = go (ltb (1 * down e) (m * up e * 2)) (sum-once (fin true m e) (fin false 1 (negsuc 0)))
  where
    r : Float
    r = fin true m e ⊕ fin false 1 (negsuc 0)

    small : (d a : ℕ) → (1 * d - a) * 2 ≤ d * 2
    small d a = omega arith

    go : (t : Bool) → Rounds r (cond t (fraction true (m * up e * 2 - 1 * down e) (down e * 2)) (fraction false (1 * down e - m * up e * 2) (down e * 2))) → le 1·0 r ≡ false
    go true R = negative-under-one r (rounded-signed r true _ _ R)
    go false R = rounded-half r (1 * down e - m * up e * 2) (down e * 2) (mul-pos (down_pos e) (lit< tt)) (small (down e) (m * up e * 2)) R

-- ---- the laws
-- the signs of v for which the sum is that of `round`
positive-sum : (m : ℕ) (e : ℤ) → Signed (fin false m e ⊕ 0·5) false
unfolding of_bits
positive-sum m e = rounded-signed (fin false m e ⊕ fin false 1 (negsuc 0)) false _ _ (sum-once (fin false m e) (fin false 1 (negsuc 0)))

pub half-low : (v : Float) → le 1·0 (v ⊕ 0·5) ≡ false → as_unsigned 64 (round_of v) ≡ 0
unfolding round_of abs_of neg of_bits add le as_signed as_unsigned of_int
half-low nan h = refl
half-low (inf true) h = below-zero (inf true) refl
half-low (inf false) h = true-not-false h
half-low (fin true m e) h = below-zero (fin true m e ⊕ fin true 1 (negsuc 0)) (rounded-signed _ true _ _ (sum-once (fin true m e) (fin true 1 (negsuc 0))))
half-low (fin false m e) h = below_one (fin false m e ⊕ 0·5) (positive-sum m e) h

-- from 1 on the sum is the one that `round` cuts
same_sum : (v : Float) → le 1·0 (v ⊕ 0·5) ≡ true → (round_of v ≡ whole_of (v ⊕ 0·5)) × Signed (v ⊕ 0·5) false
unfolding round_of abs_of neg of_bits add le
same_sum nan h = false-not-true h
same_sum (inf true) h = false-not-true h
same_sum (inf false) h = (refl, refl)
same_sum (fin true m e) h = false-not-true (sym (negative-sum m e) ∙ h)
same_sum (fin false m e) h = (refl, positive-sum m e)

pub whole-value : (n : ℕ) → n < 2 ^ 16 → HasValue (of_int binary64 (pos n)) false n 1
unfolding of_int
whole-value n h = round_whole binary64 false n (small n h)
  where
    small : (x : ℕ) → x < 2 ^ 16 → x ≤ 2 ^ 53
    small x g = omega arith

module _ (v : Float) (n : ℕ) (N : n < 2 ^ 16) (some : le 1·0 (v ⊕ 0·5) ≡ true) where
  pub half-below : lt (v ⊕ 0·5) (of_int binary64 (pos n)) ≡ true → (as_unsigned 64 (round_of v) ≡ as_unsigned 64 (v ⊕ 0·5)) × (as_unsigned 64 (v ⊕ 0·5) < n)
  half-below h =
      let s = same_sum v some in
      let b = below-whole (v ⊕ 0·5) (of_int binary64 (pos n)) n N s.1 (whole-value n N) h in
      (ap (as_unsigned 64) s.0 ∙ b.0, b.1)

  pub half-from : lt (v ⊕ 0·5) (of_int binary64 (pos n)) ≡ false → n ≤ as_unsigned 64 (round_of v)
  half-from h =
      let s = same_sum v some in
      subst (λ (x : Float). n ≤ as_unsigned 64 x) (sym s.0) (from-whole (v ⊕ 0·5) (of_int binary64 (pos n)) n N s.1 (whole-value n N) h)
