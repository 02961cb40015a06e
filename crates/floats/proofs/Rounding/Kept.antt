-- What the kit's `round` keeps of n / den, times 2 ^ the digits that it drops, is nearest among all y * 2 ^ j with y of at most p digits, and on a tie the kept number is even.
-- A candidate with fewer digits dropped lies below 2 ^ (p - 1) times 2 ^ the digits dropped, which is a candidate too and which n / den reaches.
use Rattle.std.proofs.Common.{◌≡◌, ℕ, ◌+◌, ◌-◌, ◌*◌, ◌/◌, ◌%◌, ◌^◌, ◌<◌, ◌≤◌, ◌⊎◌, sym, ap, ◌∙◌, subst, inl, inr, le_trans, le_of_eq, lt_of_lt_of_le, le_of_lt, mul_assoc, mul_comm, mul-lt-mul_of_pos_right, mul-pos, le-div_iff_mul-le, mul_left_comm, arith, pow_pos, pow_mono, pow-add}
use Prim.Native.Nat.{compare}
use native.Mathlib.Nat.{div-div-eq-div-mul}
use lib.Ieee.{size}
use lib.Ieee.Digits.{size_reaches, back}
use lib.Ieee.Fits.{kept-lt, nearest-le}
use lib.Ieee.Nearest.{nearest-ge}
use lib.Ieee.Order.{drop, kept}
use Rattle.std.proofs.lemmas.Bool.{cases_lt}
use Rattle.floats.specs.Rounding.{dist}
use Rattle.floats.proofs.Rounding.Closest.{closest-best}

-- at most p digits, or 2 ^ p
pub kept-le : (p n den : ℕ) → kept p n den ≤ 2 ^ p
kept-le p n den =
    let k = drop p n den in
    let u = den * 2 ^ k in
    le_trans (nearest-le (n / u) (compare (n % u * 2) u)) (subst (λ (x : ℕ). x < 2 ^ p) (div-div-eq-div-mul n den (2 ^ k)) (kept-lt p (n / den)))

-- y * 2 ^ j as a multiple of 2 ^ i
pub at-exponent : (y j i : ℕ) → i ≤ j → y * 2 ^ (j - i) * 2 ^ i ≡ y * 2 ^ j
at-exponent y j i h = mul_assoc y (2 ^ (j - i)) (2 ^ i) ∙ ap (λ (x : ℕ). y * x) (sym (pow-add 2 (j - i) i) ∙ ap (λ (x : ℕ). 2 ^ x) (back j i h))

module _ (p n den : ℕ) (P : 0 < p) (D : 0 < den) where
  -- where digits are dropped, n / den is 2 ^ (p - 1) times 2 ^ those at least
  reaches : 0 < drop p n den → 2 ^ (p - 1) * 2 ^ drop p n den * den ≤ n
  reaches K =
      let k = drop p n den in
      (le-div_iff_mul-le D).0 (le_trans (le_of_eq (sym (pow-add 2 (p - 1) k))) (size_reaches (n / den) (p - 1 + k) (all_in_use (size (n / den)) p P K)))
    where
      all_in_use : (z p : ℕ) → 0 < p → 0 < z - p → p - 1 + (z - p) < z
      all_in_use z p P h = omega arith

  turned : (c i : ℕ) → c * (den * 2 ^ i) ≡ c * 2 ^ i * den
  turned c i = simp (mul_assoc, mul_comm, mul_left_comm)

  -- and the kept number has p digits at least
  pub kept-ge : 0 < drop p n den → 2 ^ (p - 1) ≤ kept p n den
  kept-ge K =
      let k = drop p n den in
      let u = den * 2 ^ k in
      le_trans ((le-div_iff_mul-le (mul-pos D (pow_pos k))).1 (le_trans (le_of_eq (turned (2 ^ (p - 1)) k)) (reaches K))) (nearest-ge (n / u) (compare (n % u * 2) u))

  -- against any z * 2 ^ the digits dropped
  near-at : (z : ℕ) → dist (kept p n den * 2 ^ drop p n den * den) n ≤ dist (z * 2 ^ drop p n den * den) n
  near-at z =
      let i = drop p n den in
      rw (← turned (kept p n den) i, ← turned z i) (closest-best n (den * 2 ^ i) z (mul-pos D (pow_pos i))).near

  even-at : (z : ℕ) → dist (kept p n den * 2 ^ drop p n den * den) n ≡ dist (z * 2 ^ drop p n den * den) n → (z ≡ kept p n den) ⊎ (kept p n den % 2 ≡ 0)
  even-at z h =
      let i = drop p n den in
      (closest-best n (den * 2 ^ i) z (mul-pos D (pow_pos i))).even
      (ap (λ (x : ℕ). dist x n) (turned (kept p n den) i) ∙ h ∙ sym (ap (λ (x : ℕ). dist x n) (turned z i)))

  -- a candidate with fewer digits dropped is further away
  further : (y j : ℕ) → y < 2 ^ p → j < drop p n den → dist (kept p n den * 2 ^ drop p n den * den) n < dist (y * 2 ^ j * den) n
  further y j h l =
      let i = drop p n den in
      let a : y * 2 ^ j < 2 ^ (p - 1) * 2 ^ i =
      lt_of_lt_of_le (mul-lt-mul_of_pos_right h (pow_pos j)) (le_trans (le_of_eq (sym (pow-add 2 p j))) (le_trans (pow_mono (room p j i P l)) (le_of_eq (pow-add 2 (p - 1) i)))) in
      beyond (y * 2 ^ j * den) (2 ^ (p - 1) * 2 ^ i * den) (kept p n den * 2 ^ i * den) n (mul-lt-mul_of_pos_right a D) (reaches (above j i l)) (near-at (2 ^ (p - 1)))
    where
      room : (p j k : ℕ) → 0 < p → j < k → p + j ≤ p - 1 + k
      room p j k P h = omega arith

      above : (j k : ℕ) → j < k → 0 < k
      above j k h = omega arith

      beyond : (x y z n : ℕ) → x < y → y ≤ n → dist z n ≤ dist y n → dist z n < dist x n
      beyond x y z n h g d = omega arith

  pub kept_near : (y j : ℕ) → y < 2 ^ p → dist (kept p n den * 2 ^ drop p n den * den) n ≤ dist (y * 2 ^ j * den) n
  kept_near y j h = elim (cases_lt j (drop p n den)) [
    | inl l ↦ le_of_lt (further y j h l)
    | inr l ↦ subst (λ (x : ℕ). dist (kept p n den * 2 ^ drop p n den * den) n ≤ dist (x * den) n) (at-exponent y j (drop p n den) l) (near-at (y * 2 ^ (j - drop p n den)))
  ]

  pub kept-even : (y j : ℕ) → y < 2 ^ p → dist (kept p n den * 2 ^ drop p n den * den) n ≡ dist (y * 2 ^ j * den) n → (y * 2 ^ j ≡ kept p n den * 2 ^ drop p n den) ⊎ (kept p n den % 2 ≡ 0)
  kept-even y j h d = elim (cases_lt j (drop p n den)) [
    | inl l ↦ absurd (apart (further y j h l) d)
    | inr l ↦ elim (even-at (y * 2 ^ (j - drop p n den)) (d ∙ ap (λ (x : ℕ). dist (x * den) n) (sym (at-exponent y j (drop p n den) l)))) [
      | inl e ↦ inl (sym (at-exponent y j (drop p n den) l) ∙ ap (λ (x : ℕ). x * 2 ^ drop p n den) e)
      | inr e ↦ inr e
    ]
  ]
    where
      apart : {x y : ℕ} → x < y → x ≡ y → ⊥
      apart {x} {y} h e = omega arith
