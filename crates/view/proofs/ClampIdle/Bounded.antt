-- A result rounded once is at most any float that the exact result does not exceed: what lies further off is not nearest. And what its whole part is then.
use Rattle.std.proofs.Common.{◌≡◌, ℕ, suc, ◌+◌, ◌-◌, ◌*◌, ◌^◌, ◌<◌, ◌≤◌, min, Bool, true, false, ℤ, sym, inl, inr, le_of_eq, lt_of_lt_of_le, lt_of_le_of_lt, div-lt_iff_lt-mul, lt_of_mul-lt-mul_right, mul-lt-mul_of_pos_right, mul_right_comm, arith, pow_pos}
use lib.Ieee.{Float, nan, inf, fin, up, down}
use lib.Ieee.Fits.{down_pos}
use Rattle.std.proofs.lemmas.Bool.{cases_lt}
use Rattle.floats.specs.Rounding.{dist, IsUnits, midway, Rounded}
use Rattle.floats.specs.Truncation.{whole_part, as_unsigned}

-- 1, and a quarter, in units
abbrev pub one : ℕ
one = 2 ^ 1074

abbrev pub quarter : ℕ
quarter = 2 ^ 1072

-- r has the sign s, and in units it is a candidate of `Nearest` and at most `bound`
pub record AtMost (r : Float) (s : Bool) (bound : ℕ) : Type 0 where
  pub digits : ℕ
  pub exponent : ℕ
  pub few : digits < 2 ^ 53
  pub is : IsUnits r s (digits * 2 ^ exponent)
  pub low : digits * 2 ^ exponent ≤ bound

pub at_most : (r : Float) (s : Bool) (num den q j : ℕ) → Rounded r s num den → 0 < den → q < 2 ^ 53 → q * 2 ^ j < midway → num * one ≤ q * 2 ^ j * den → AtMost r s (q * 2 ^ j)
at_most r s num den q j R D few under h =
    let f = R.within (lt_of_le_of_lt h (mul-lt-mul_of_pos_right under D)) in
    record {
      digits = f.0;
      exponent = f.1;
      few = f.3.digits;
      is = f.2;
      low = elim (cases_lt (q * 2 ^ j) (f.0 * 2 ^ f.1)) [
        | inl g ↦ absurd (past (f.0 * 2 ^ f.1 * den) (q * 2 ^ j * den) (num * one) h (mul-lt-mul_of_pos_right g D) (f.3.near q j few))
        | inr g ↦ g
      ];
    }
  where
    past : (v c n : ℕ) → n ≤ c → c < v → dist v n ≤ dist c n → ⊥
    past v c n l g d = omega arith

-- ---- below k + 1 the whole part is at most k
pub whole_below : (m : ℕ) (e : ℤ) (n k : ℕ) → m * up e * one ≡ n * down e → n < suc k * one → whole_part m e < suc k
whole_below m e n k h l =
    (div-lt_iff_lt-mul (down_pos e)).1
    (lt_of_mul-lt-mul_right one (lt_of_le_of_lt (le_of_eq h) (lt_of_lt_of_le (mul-lt-mul_of_pos_right l (down_pos e)) (le_of_eq (mul_right_comm (suc k) one (down e))))))

pub truncated : (w : ℕ) (x : Float) (s : Bool) (n k : ℕ) → IsUnits x s n → n < suc k * one → as_unsigned w x ≤ k
unfolding as_unsigned
truncated w nan s n k h l = absurd h
truncated w (inf t) s n k h l = absurd h
truncated w (fin true m e) s n k h l = omega arith
truncated w (fin false m e) s n k h l = lower (whole_part m e) (2 ^ w - 1) k (whole_below m e n k h.1 l)
  where
    lower : (a b c : ℕ) → a < suc c → min a b ≤ c
    lower a b c g = omega arith

-- k and three quarters at most
pub under_next : (n k : ℕ) → n ≤ (4 * k + 3) * quarter → n < suc k * one
under_next n k h = lt_of_le_of_lt h (lt_of_lt_of_le (mul-lt-mul_of_pos_right (less k) (pow_pos 1072)) (le_of_eq (sym (next k quarter))))
  where
    less : (j : ℕ) → 4 * j + 3 < 4 * j + 4
    less j = omega arith

    next : (j u : ℕ) → suc j * (u * 4) ≡ (4 * j + 4) * u
    next j u = omega arith
