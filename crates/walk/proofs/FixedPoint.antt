-- Offsets by fixed point: a start just before the middle of a dot and k slopes lie in the dot of the closed formula.
use Rattle.std.proofs.Common.{◌≡◌, ℕ, ◌+◌, ◌-◌, ◌*◌, ◌/◌, ◌%◌, ◌^◌, ◌<◌, ◌≤◌, Bool, true, false, cond, ltb, ◌⊎◌, sym, refl, inl, inr, mul-le-mul_right, mul-le-mul_left, zero-mul, mul-add, div-mul-le_self, arith, ltb-false, ltb-true, le-ltb}
use native.Mathlib.Nat.{div-le_of_le-mul, lt-div-mul-add, div-eq_of_lt-le}
use Rattle.std.proofs.lemmas.Bool.Decides.{nat_tests}
use Rattle.std.proofs.lemmas.Bool.{cases_lt}
use Rattle.walk.specs.Line.{apart, offset_after, toward}
use Rattle.walk.specs.Course.{slope_of, place_of, move_of}
use Rattle.walk.proofs.Offset.{offset-start, offset-above, offset-below}
use Rattle.walk.proofs.LineDots.{offset-short}

-- ---- the slope: rounded up by at most one
module _ (long short : ℕ) (low : short ≤ long) where
  slope-above : short * 2 ^ 48 ≤ long * slope_of long short
  unfolding slope_of
  slope-above = go (ltb short long) refl
    where
      more : (q : ℕ) → short * 2 ^ 48 < q * long + long → short * 2 ^ 48 ≤ long * (q + 1)
      more q h = omega arith

      go : (t : Bool) → ltb short long ≡ t → short * 2 ^ 48 ≤ long * cond t (short * 2 ^ 48 / long + 1) (2 ^ 48)
      go true t = more (short * 2 ^ 48 / long) (lt-div-mul-add (omega (arith, ltb-true short long t)))
      go false t = omega arith

  slope-below : long * slope_of long short ≤ short * 2 ^ 48 + long
  unfolding slope_of
  slope-below = go (ltb short long) refl
    where
      less : (q : ℕ) → q * long ≤ short * 2 ^ 48 → long * (q + 1) ≤ short * 2 ^ 48 + long
      less q h = omega arith

      go : (t : Bool) → ltb short long ≡ t → long * cond t (short * 2 ^ 48 / long + 1) (2 ^ 48) ≤ short * 2 ^ 48 + long
      go true t = less (short * 2 ^ 48 / long) (div-mul-le_self (short * 2 ^ 48) long)
      go false t = omega (arith, ltb-false short long t)

  slope-fits : slope_of long short ≤ 2 ^ 64
  unfolding slope_of
  slope-fits = go (ltb short long)
    where
      few : (q : ℕ) → q ≤ 2 ^ 48 → q + 1 ≤ 2 ^ 64
      few q h = omega arith

      go : (t : Bool) → cond t (short * 2 ^ 48 / long + 1) (2 ^ 48) ≤ 2 ^ 64
      go true = few (short * 2 ^ 48 / long) (div-le_of_le-mul long (mul-le-mul_right (2 ^ 48) low))
      go false = omega arith

pub slope-some : (long short : ℕ) → 0 < slope_of long short
unfolding slope_of
slope-some long short = grind (arith, nat_tests)

-- ---- k slopes, from a start just before the middle
module _ (long short k start : ℕ) (fits : long < 2 ^ 16) (low : short ≤ long) (on : k ≤ long) (least : 2 ^ 47 - 2 ^ 30 - 1 ≤ start) (most : start ≤ 2 ^ 47 - 2 ^ 16) where
  -- a place below or above the formula's dot, times `long`, contradicts the formula's own bounds
  too-low : (o slope : ℕ) → short * 2 ^ 48 ≤ long * slope → 2 * (long * o) ≤ 2 * (k * short) + long - 1 → 0 < long → start + k * slope < o * 2 ^ 48 → ⊥
  too-low o slope s b some g =
      omega (arith, mul-le-mul_left long g, mul-le-mul_left k s, mul-le-mul_left long least)

  too-high : (o slope : ℕ) → long * slope ≤ short * 2 ^ 48 + long → 2 * (k * short) + long - 1 < 2 * (long * o) + 2 * long → 0 < long → (o + 1) * 2 ^ 48 ≤ start + k * slope → ⊥
  too-high o slope s b some g =
      omega (arith, mul-le-mul_left long g, mul-le-mul_left k s, mul-le-mul_left long most, mul-le-mul_right {m = k} {n = 65535} long (omega arith))

  -- the dot that they lie in
  abbrev Reaches : ℕ → ℕ → Type 0
  Reaches o place = (o * 2 ^ 48 ≤ place) × (place < (o + 1) * 2 ^ 48)

  reaches : Reaches (offset_after long short k) (start + k * slope_of long short)
  reaches = go (cases_lt 0 long)
    where
      above : 0 < long → offset_after long short k * 2 ^ 48 ≤ start + k * slope_of long short
      above some = elim (cases_lt (start + k * slope_of long short) (offset_after long short k * 2 ^ 48)) [
        | inl g ↦ absurd (too-low (offset_after long short k) (slope_of long short) (slope-above long short low) (offset-above long short some low k) some g)
        | inr g ↦ g
      ]

      below : 0 < long → start + k * slope_of long short < (offset_after long short k + 1) * 2 ^ 48
      below some = elim (cases_lt (start + k * slope_of long short) ((offset_after long short k + 1) * 2 ^ 48)) [
        | inl g ↦ g
        | inr g ↦ absurd (too-high (offset_after long short k) (slope_of long short) (slope-below long short low) (offset-below long short some low k) some g)
      ]

      none : k ≡ 0 → Reaches (offset_after long short k) (start + k * slope_of long short)
      none e = rw (e, offset-start long short, zero-mul (slope_of long short)) (omega arith, omega arith)

      go : (0 < long) ⊎ (long ≤ 0) → Reaches (offset_after long short k) (start + k * slope_of long short)
      go (inl some) = (above some, below some)
      go (inr empty) = none (omega arith)

-- ---- the offset, and a place that it is added to or taken from
module _ (long short k : ℕ) (fits : long < 2 ^ 16) (low : short ≤ long) (on : k ≤ long) where
  pub fixed-offset : (2 ^ 47 - 2 ^ 30 + k * slope_of long short) / 2 ^ 48 ≡ offset_after long short k
  fixed-offset =
      let r = reaches long short k (2 ^ 47 - 2 ^ 30) fits low on (omega arith) (omega arith) in
      div-eq_of_lt-le (2 ^ 48) r.0 r.1

  -- from a upwards in number, modulo 2 ^ 64
  pub fixed-forward : (a : ℕ) → a + offset_after long short k < 2 ^ 16 → (a * 2 ^ 48 + (2 ^ 47 - 2 ^ 30) + k * slope_of long short) % 2 ^ 64 / 2 ^ 48 ≡ a + offset_after long short k
  fixed-forward a h =
      let r = reaches long short k (2 ^ 47 - 2 ^ 30) fits low on (omega arith) (omega arith) in
      upper (offset_after long short k) (k * slope_of long short) h r.0 r.1
    where
      upper : (o s : ℕ) → a + o < 2 ^ 16 → o * 2 ^ 48 ≤ 2 ^ 47 - 2 ^ 30 + s → 2 ^ 47 - 2 ^ 30 + s < (o + 1) * 2 ^ 48 → (a * 2 ^ 48 + (2 ^ 47 - 2 ^ 30) + s) % 2 ^ 64 / 2 ^ 48 ≡ a + o
      upper o s h f g = omega arith

  -- from a downwards: from the other side of the middle, a step adds 2 ^ 64 less the slope
  pub fixed_back : (a : ℕ) → a < 2 ^ 16 → offset_after long short k ≤ a
      → (a * 2 ^ 48 + (2 ^ 47 + 2 ^ 30) + k * (2 ^ 64 - slope_of long short)) % 2 ^ 64 / 2 ^ 48 ≡ a - offset_after long short k
  fixed_back a top h =
      let r = reaches long short k (2 ^ 47 - 2 ^ 30 - 1) fits low on (omega arith) (omega arith) in
      let m : 2 ^ 64 - slope_of long short + slope_of long short ≡ 2 ^ 64 = omega (arith, slope-fits long short low) in
      upper (offset_after long short k) (k * slope_of long short) (k * (2 ^ 64 - slope_of long short)) h r.0 r.1 (rw m at (mul-add k (2 ^ 64 - slope_of long short) (slope_of long short)))
    where
      upper : (o s p : ℕ) → o ≤ a → o * 2 ^ 48 ≤ 2 ^ 47 - 2 ^ 30 - 1 + s → 2 ^ 47 - 2 ^ 30 - 1 + s < (o + 1) * 2 ^ 48 → k * 2 ^ 64 ≡ p + s
          → (a * 2 ^ 48 + (2 ^ 47 + 2 ^ 30) + p) % 2 ^ 64 / 2 ^ 48 ≡ a - o
      upper o s p h f g e = omega arith

-- one direction of a line, after k steps
pub toward-fixed : (long a b k : ℕ) → long < 2 ^ 16 → a < 2 ^ 16 → b < 2 ^ 16 → apart a b ≤ long → k ≤ long
    → (place_of a b + k * move_of long a b) % 2 ^ 64 / 2 ^ 48 ≡ toward a b (offset_after long (apart a b) k)
unfolding place_of move_of
toward-fixed long a b k fits f g low on = go (ltb b a) refl
  where
    near : offset_after long (apart a b) k ≤ apart a b
    near = offset-short long (apart a b) k low on

    go : (t : Bool) → ltb b a ≡ t
        → (a * 2 ^ 48 + cond t (2 ^ 47 + 2 ^ 30) (2 ^ 47 - 2 ^ 30) + k * cond t (2 ^ 64 - slope_of long (apart a b)) (slope_of long (apart a b))) % 2 ^ 64 / 2 ^ 48
        ≡ cond t (a - offset_after long (apart a b) k) (a + offset_after long (apart a b) k)
    go true t = fixed_back long (apart a b) k fits low on a f (below (offset_after long (apart a b) k) near (ltb-true b a t))
      where
        below : (o : ℕ) → o ≤ apart a b → b < a → o ≤ a
        below o h l = omega arith
    go false t = fixed-forward long (apart a b) k fits low on a (below (offset_after long (apart a b) k) near (ltb-false b a t))
      where
        below : (o : ℕ) → o ≤ apart a b → a ≤ b → a + o < 2 ^ 16
        below o h l = omega arith

-- ---- a move of a whole dot: only that of the longer way, upwards in number
pub move-one : (long a b : ℕ) → long < 2 ^ 16 → apart a b ≤ long → move_of long a b ≡ 2 ^ 48 → (a ≤ b) × (apart a b ≡ long)
unfolding move_of
move-one long a b fits low = go (ltb b a) refl
  where
    bound : (slope : ℕ) → slope ≡ slope_of long (apart a b) → long * slope ≤ apart a b * 2 ^ 48 + long
    bound slope s = rw s (slope-below long (apart a b) low)

    go : (t : Bool) → ltb b a ≡ t → cond t (2 ^ 64 - slope_of long (apart a b)) (slope_of long (apart a b)) ≡ 2 ^ 48 → (a ≤ b) × (apart a b ≡ long)
    go true t m =
        let s : 2 ^ 64 - 2 ^ 48 ≡ slope_of long (apart a b) = omega arith in
        absurd (omega (arith, ltb-true b a t, bound (2 ^ 64 - 2 ^ 48) s))
    go false t m = let h = bound (2 ^ 48) (sym m) in (ltb-false b a t, omega (arith, h))

pub one-move : (long a b : ℕ) → a ≤ b → apart a b ≡ long → move_of long a b ≡ 2 ^ 48
unfolding move_of slope_of
one-move long a b h e = rw (le-ltb b a h, e, le-ltb long long (omega arith))

-- for `moves`: 2^64 less a slope is a number of 64 bits
pub ruleset slopes = (slope-some)
