-- A part of a width, times k and over the width, is at most a quarter above k up to 399: a float of 53 digits lies a quarter of the part above the product at most, and k and a quarter is a float.
use Rattle.std.proofs.Common.{◌≡◌, ℕ, ◌+◌, ◌*◌, ◌/◌, ◌^◌, ◌<◌, ◌≤◌, Bool, true, false, cond, eqb, sym, ap, ◌∙◌, subst, inl, inr, le_trans, le_of_eq, lt_of_le_of_lt, mul-le-mul_right, mul_assoc, mul_comm, mul-le-mul_left, mul-pos, mul-one, mul_right_comm, le_of_mul-le-mul_right, mul_left_comm, arith, lit<, pow-add, ne_eqb}
use lib.Ieee.{Float, nan, inf, fin, unlike, up, down}
use lib.Ieee.Fits.{down_pos, up_pos}
use lib.Ieee.Exact.{HasValue}
use lib.Ieee.Positive.{first_pos}
use Rattle.std.proofs.lemmas.Bool.{cases_lt}
use Rattle.floats.specs.Arithmetic.{◌⊗◌, ◌⊘◌}
use Rattle.floats.specs.Rounding.{IsUnits, invalid, infinite, fraction, Rounds, Rounded}
use Rattle.floats.proofs.Rounding.Operations.{product-once, quotient-once}
use Rattle.view.proofs.ClampIdle.Bounded.{one, quarter, AtMost, at_most}

unlike-positive : (t u s : Bool) → t ≡ s → u ≡ false → unlike t u ≡ s
unlike-positive true true s e f = sym f ∙ e
unlike-positive true false s e f = e
unlike-positive false true s e f = f ∙ e
unlike-positive false false s e f = e

-- ---- a float just above n * k
record JustAbove (n k : ℕ) : Type 0 where
  digits : ℕ
  exponent : ℕ
  few : digits < 2 ^ 53
  above : n * k ≤ digits * 2 ^ exponent
  near : 4 * (digits * 2 ^ exponent) ≤ (4 * k + 1) * n

just-above : (q k : ℕ) → q < 2 ^ 53 → k ≤ 399 → JustAbove q k
just-above q k Q K = elim (cases_lt (q * k) (2 ^ 53)) [
  | inl h ↦ record { digits = q * k; exponent = 0; few = h; above = omega arith; near = omega arith }
  | inr h ↦
      let t : q * k ≤ 399 * q = le_trans (mul-le-mul_left q K) (le_of_eq (mul_comm q 399)) in
      record { digits = q * k / 512 + 1; exponent = 9; few = few (q * k) q t Q; above = above (q * k); near = le_trans (near (q * k) q h t) (omega arith) }
]
  where
    few : (a b : ℕ) → a ≤ 399 * b → b < 2 ^ 53 → a / 512 + 1 < 2 ^ 53
    few a b g i = omega arith

    above : (a : ℕ) → a ≤ (a / 512 + 1) * 512
    above a = omega arith

    near : (a b : ℕ) → 2 ^ 53 ≤ a → a ≤ 399 * b → 4 * ((a / 512 + 1) * 512) ≤ 4 * a + b
    near a b g i = omega arith

raised : {q k : ℕ} (j : ℕ) → JustAbove q k → JustAbove (q * 2 ^ j) k
raised {q} {k} j c =
    let E : c.digits * 2 ^ (c.exponent + j) ≡ c.digits * 2 ^ c.exponent * 2 ^ j = ap (λ (x : ℕ). c.digits * x) (pow-add 2 c.exponent j) ∙ sym (mul_assoc c.digits (2 ^ c.exponent) (2 ^ j)) in
    record {
      digits = c.digits;
      exponent = c.exponent + j;
      few = c.few;
      above = le_trans (le_of_eq (mul_right_comm q (2 ^ j) k)) (le_trans (mul-le-mul_right (2 ^ j) c.above) (le_of_eq (sym E)));
      near = le_trans (le_of_eq (ap (λ (x : ℕ). 4 * x) E ∙ sym (mul_assoc 4 (c.digits * 2 ^ c.exponent) (2 ^ j)))) (le_trans (mul-le-mul_right (2 ^ j) c.near) (le_of_eq (mul_assoc (4 * k + 1) q (2 ^ j))));
    }

-- ---- products
product-units : (a b n k d g : ℕ) → a * one ≡ n * d → b * 1 ≡ k * g → a * b * one ≡ n * k * (d * g)
product-units a b n k d g p q =
    (let e : a * b * one ≡ a * one * (b * 1) = simp (mul-one, mul_assoc, mul_comm, mul_left_comm) in e)
    ∙ ap (λ (x : ℕ). x * (b * 1)) p ∙ ap (λ (x : ℕ). n * d * x) q
    ∙ (let e : n * d * (k * g) ≡ n * k * (d * g) = simp (mul_assoc, mul_left_comm) in e)

pub product-bound : (x y : Float) (s : Bool) (q j k : ℕ) → q < 2 ^ 53 → q * 2 ^ j ≤ 2 ^ 1116 → k ≤ 399 → IsUnits x s (q * 2 ^ j) → HasValue y false k 1
    → (n : ℕ) × IsUnits (x ⊗ y) s n × (4 * n ≤ (4 * k + 1) * (q * 2 ^ j))
product-bound nan y s q j k Q S K h i = absurd h
product-bound (inf t) y s q j k Q S K h i = absurd h
product-bound (fin t m e) nan s q j k Q S K h i = absurd i
product-bound (fin t m e) (inf u) s q j k Q S K h i = absurd i
product-bound (fin t m e) (fin u n g) s q j k Q S K h i =
    let c = raised j (just-above q k Q K) in
    let a = at_most (fin t m e ⊗ fin u n g) s (m * up e * (n * up g)) (down e * down g) c.digits c.exponent
    (subst (λ (b : Bool). Rounded (fin t m e ⊗ fin u n g) b (m * up e * (n * up g)) (down e * down g)) (unlike-positive t u s h.0 i.0) (product-once (fin t m e) (fin u n g)))
    (mul-pos (down_pos e) (down_pos g)) c.few (lt_of_le_of_lt (small (c.digits * 2 ^ c.exponent) (q * 2 ^ j) k c.near K) (lt_of_le_of_lt (mul-le-mul_left 400 S) (lit< tt)))
    (le_trans (le_of_eq (product-units (m * up e) (n * up g) (q * 2 ^ j) k (down e) (down g) h.1 i.1)) (mul-le-mul_right (down e * down g) c.above)) in
    (a.digits * 2 ^ a.exponent, a.is, le_trans (mul-le-mul_left 4 a.low) c.near)
  where
    small : (v x y : ℕ) → 4 * v ≤ (4 * y + 1) * x → y ≤ 399 → v ≤ 400 * x
    small v x y l b = four v (400 * x) (le_trans l (le_trans (mul-le-mul_right x (cap y b)) (omega arith)))
      where
        cap : (z : ℕ) → z ≤ 399 → 4 * z + 1 ≤ 1600
        cap z g = omega arith

        four : (a b : ℕ) → 4 * a ≤ 4 * b → a ≤ b
        four a b g = omega arith

-- ---- quotients
crosswise : (a b n w d g c h : ℕ) → a * (h * 4) ≡ n * d → b * (h * 4) ≡ w * g → 4 * n ≤ c * w → a * g * (h * 4) ≤ c * h * (b * d)
crosswise a b n w d g c h p q l =
    le_of_mul-le-mul_right
    (le_trans (le_of_eq (ap (λ (x : ℕ). x * 4) (mul_right_comm a g (h * 4) ∙ ap (λ (x : ℕ). x * g) p) ∙ left))
    (le_trans (mul-le-mul_right (d * g) l) (le_of_eq (right ∙ ap (λ (x : ℕ). c * d * x) (sym q) ∙ last))))
    (lit< {m = 0} {n = 4} tt)
  where
    left : n * d * g * 4 ≡ 4 * n * (d * g)
    left = simp (mul_assoc, mul_comm, mul_left_comm)

    right : c * w * (d * g) ≡ c * d * (w * g)
    right = simp (mul_assoc, mul_comm, mul_left_comm)

    last : c * d * (b * (h * 4)) ≡ c * h * (b * d) * 4
    last = simp (mul_assoc, mul_comm, mul_left_comm)

pub quotient-bound : (x y : Float) (s : Bool) (n w k : ℕ) → 0 < w → 4 * n ≤ (4 * k + 1) * w → k ≤ 399 → IsUnits x s n → IsUnits y false w → AtMost (x ⊘ y) s ((4 * k + 1) * quarter)
quotient-bound nan y s n w k W l K h i = absurd h
quotient-bound (inf t) y s n w k W l K h i = absurd h
quotient-bound (fin t m e) nan s n w k W l K h i = absurd i
quotient-bound (fin t m e) (inf u) s n w k W l K h i = absurd i
quotient-bound (fin t m e) (fin u b g) s n w k W l K h i =
    let B : 0 < b = first_pos b (up g) (first_pos (b * up g) one (subst (λ (x : ℕ). 0 < x) (sym i.1) (mul-pos W (down_pos g)))) in
    at_most (fin t m e ⊘ fin u b g) s (m * up e * down g) (b * up g * down e) (4 * k + 1) 1072
    (subst (λ (r : Bool). Rounded (fin t m e ⊘ fin u b g) r (m * up e * down g) (b * up g * down e)) (unlike-positive t u s h.0 i.0)
    (subst (λ (z : Bool). Rounds (fin t m e ⊘ fin u b g) (cond z (cond (eqb m 0) invalid (infinite (unlike t u))) (fraction (unlike t u) (m * up e * down g) (b * up g * down e)))) (ne_eqb b 0 (λ z. none b B z)) (quotient-once (fin t m e) (fin u b g))))
    (mul-pos (mul-pos B (up_pos g)) (down_pos e)) (few k K) (lt_of_le_of_lt (mul-le-mul_right quarter (small k K)) (lit< tt))
    (crosswise (m * up e) (b * up g) n w (down e) (down g) (4 * k + 1) quarter h.1 i.1 l)
  where
    none : (x : ℕ) → 0 < x → x ≡ 0 → ⊥
    none x p z = omega arith

    few : (j : ℕ) → j ≤ 399 → 4 * j + 1 < 2 ^ 53
    few j g = omega arith

    small : (j : ℕ) → j ≤ 399 → 4 * j + 1 ≤ 1600
    small j g = omega arith
