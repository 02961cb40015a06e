-- `round` and then `as u64` of a number at most a quarter above k gives k at most: half a one more is still below k + 1.
use Rattle.std.proofs.Common.{◌≡◌, ℕ, suc, ◌+◌, ◌-◌, ◌*◌, ◌^◌, ◌<◌, ◌≤◌, min, Bool, true, false, ℤ, negsuc, subst, zero-le, le_trans, le_of_eq, lt_of_le_of_lt, mul-le-mul_right, mul-pos, arith, lit<}
use lib.Ieee.{Float, nan, inf, fin, up, down, of_bits, neg}
use lib.Ieee.Fits.{down_pos}
use Rattle.floats.specs.Arithmetic.{◌⊕◌}
use Rattle.floats.specs.Rounding.{IsUnits, Rounded}
use Rattle.floats.specs.Truncation.{whole_part, as_signed, as_unsigned, whole_of}
use Rattle.floats.specs.Methods.{abs_of, copysign_of}
use Rattle.floats.specs.Polyfills.{round_of, 0·5}
use Rattle.floats.proofs.Rounding.Operations.{sum-once}
use Rattle.floats.proofs.HalfAdded.{cut-negative, back}
use Rattle.view.proofs.ClampIdle.Bounded.{one, quarter, AtMost, at_most, whole_below, under_next}

-- ---- `as i64 as f64 as u64`
cut-whole : (x : Float) (s : Bool) (n k : ℕ) → IsUnits x s n → n < suc k * one → k < 999 → as_unsigned 64 (whole_of x) ≤ k
unfolding as_signed
cut-whole nan s n k h l g = absurd h
cut-whole (inf t) s n k h l g = absurd h
cut-whole (fin true m e) s n k h l g = le_trans (le_of_eq (cut-negative (min (whole_part m e) (2 ^ 63)))) zero-le
cut-whole (fin false m e) s n k h l g =
    let w = whole_below m e n k h.1 l in
    let v = min (whole_part m e) (2 ^ 63 - 1) in
    le_trans (le_of_eq (back v (small (whole_part m e) (2 ^ 63 - 1) k w g))) (lower (whole_part m e) (2 ^ 63 - 1) k w)
  where
    small : (a b c : ℕ) → a < suc c → c < 999 → min a b < 2 ^ 16
    small a b c i j = omega arith

    lower : (a b c : ℕ) → a < suc c → min a b ≤ c
    lower a b c i = omega arith

-- ---- half a one more, with the same sign
half-more : (a n d h : ℕ) → a * (h * 4) ≡ n * d → (a * 2 + 1 * d) * (h * 4) ≡ (n + 2 * h) * (d * 2)
half-more a n d h e = omega arith

module _ (m : ℕ) (e : ℤ) (n k : ℕ) (h : m * up e * one ≡ n * down e) (l : n ≤ (4 * k + 1) * quarter) (g : k < 999) where
  raised : (x : Float) (s : Bool) → Rounded x s (m * up e * 2 + 1 * down e) (down e * 2) → AtMost x s ((4 * k + 3) * quarter)
  raised x s R =
      at_most x s (m * up e * 2 + 1 * down e) (down e * 2) (4 * k + 3) 1072 R (mul-pos (down_pos e) (lit< tt)) (few k g) (lt_of_le_of_lt (mul-le-mul_right quarter (small k g)) (lit< tt))
      (le_trans (le_of_eq (half-more (m * up e) n (down e) quarter h)) (mul-le-mul_right (down e * 2) (more n k quarter l)))
    where
      few : (j : ℕ) → j < 999 → 4 * j + 3 < 2 ^ 53
      few j i = omega arith

      small : (j : ℕ) → j < 999 → 4 * j + 3 ≤ 4000
      small j i = omega arith

      more : (y j u : ℕ) → y ≤ (4 * j + 1) * u → y + 2 * u ≤ (4 * j + 3) * u
      more y j u i = omega arith

with-half : (x : Float) (s : Bool) (n k : ℕ) → IsUnits x s n → n ≤ (4 * k + 1) * quarter → k < 999 → AtMost (x ⊕ copysign_of 0·5 x) s ((4 * k + 3) * quarter)
unfolding of_bits abs_of neg
with-half nan s n k h l g = absurd h
with-half (inf t) s n k h l g = absurd h
with-half (fin true m e) s n k h l g = raised m e n k h.1 l g _ s (subst (λ (t : Bool). Rounded (fin true m e ⊕ fin true 1 (negsuc 0)) t (m * up e * 2 + 1 * down e) (down e * 2)) h.0 (sum-once (fin true m e) (fin true 1 (negsuc 0))))
with-half (fin false m e) s n k h l g = raised m e n k h.1 l g _ s (subst (λ (t : Bool). Rounded (fin false m e ⊕ fin false 1 (negsuc 0)) t (m * up e * 2 + 1 * down e) (down e * 2)) h.0 (sum-once (fin false m e) (fin false 1 (negsuc 0))))

pub round-cut : (x : Float) (s : Bool) (n k : ℕ) → IsUnits x s n → n ≤ (4 * k + 1) * quarter → k < 999 → as_unsigned 64 (round_of x) ≤ k
unfolding round_of
round-cut x s n k h l g =
    let a = with-half x s n k h l g in
    cut-whole (x ⊕ copysign_of 0·5 x) s (a.digits * 2 ^ a.exponent) k a.is (under_next (a.digits * 2 ^ a.exponent) k a.low) g
