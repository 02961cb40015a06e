-- The kit's `round` rounds once: to the nearest float, on a tie to the even one, and to an infinity from midway past the largest float on.
use Rattle.std.proofs.Common.{◌≡◌, ℕ, suc, ◌+◌, ◌-◌, ◌*◌, ◌%◌, ◌^◌, ◌<◌, ◌≤◌, Bool, false, cond, T, ◌⊎◌, sym, refl, ap, ◌∙◌, subst, inl, inr, le_trans, le_of_eq, mul-le-mul_right, add-mul, eq-zero-or-pos, eq-or-lt_of_le, mul-lt-mul_of_pos_right, mul-one, mul_right_comm, not-le_of_lt, le_of_mul-le-mul_right, add-one, arith, lit<, lit≤, pow_pos, pow-add, le-ltb}
use lib.Ieee.{Float, nan, inf, fin, binary64, units, odd, round, le}
use lib.Ieee.Fits.{round_is}
use lib.Ieee.Exact.{HasValue, units_val}
use lib.Ieee.Order.{drop, kept, round_mono}
use lib.Ieee.Scale.{grid, round_val}
use Rattle.std.proofs.lemmas.Bool.{cases_lt}
use Rattle.floats.specs.Rounding.{dist, IsUnits, Nearest, midway, Rounded}
use Rattle.floats.proofs.Rounding.Kept.{kept-le, kept-ge, kept_near, kept-even}

-- ---- the kept number with its exponent, as a significand: 2 ^ 53 is 2 ^ 52 at the next exponent
module _ (n den : ℕ) (D : 0 < den) where
  carried : (k : ℕ) → 2 ^ 52 * 2 ^ (k + 1) ≡ 2 ^ 53 * 2 ^ k
  carried k = ap (λ (x : ℕ). 2 ^ 52 * 2 ^ x) (add-one k) ∙ sym (pow-add 2 52 (suc k)) ∙ ap (λ (x : ℕ). 2 ^ x) (shift k) ∙ pow-add 2 53 k
    where
      shift : (j : ℕ) → 52 + suc j ≡ 53 + j
      shift j = omega arith

  nearest-at : (q k : ℕ) → q * 2 ^ k ≡ kept 53 n den * 2 ^ drop 53 n den → q < 2 ^ 53 → (k ≡ 0) ⊎ (2 ^ 52 ≤ q) → (kept 53 n den % 2 ≡ 0 → q % 2 ≡ 0) → Nearest n den q k
  nearest-at q k e d l f = record {
    digits = d;
    leading = l;
    near = λ p j h. subst (λ (v : ℕ). dist (v * den) n ≤ dist (p * 2 ^ j * den) n) (sym e) (kept_near 53 n den (lit< tt) D p j h);
    even = λ p j h g. elim (kept-even 53 n den (lit< tt) D p j h (ap (λ (v : ℕ). dist (v * den) n) (sym e) ∙ g)) [ inl x ↦ inl (x ∙ sym e) | inr m ↦ inr (f m) ];
  }

  significand : (q : ℕ) × (k : ℕ) × (q * 2 ^ k ≡ kept 53 n den * 2 ^ drop 53 n den) × Nearest n den q k
  significand =
      let i = drop 53 n den in
      elim (eq-or-lt_of_le (kept-le 53 n den)) [
        | inl e ↦
            let f : 2 ^ 52 * 2 ^ (i + 1) ≡ kept 53 n den * 2 ^ i = carried i ∙ ap (λ (x : ℕ). x * 2 ^ i) (sym e) in
            (2 ^ 52, i + 1, f, nearest-at (2 ^ 52) (i + 1) f (lit< tt) (inr (lit≤ tt)) (λ m. refl))
        | inr h ↦ (kept 53 n den, i, refl, nearest-at (kept 53 n den) i refl h (elim (eq-zero-or-pos i) [ inl z ↦ inl z | inr K ↦ inr (kept-ge 53 n den (lit< tt) D K) ]) (λ m. m))
      ]

-- ---- below midway nothing overflows: the largest float is nearer than the next power of two
abbrev largest : ℕ
largest = (2 ^ 53 - 1) * 2 ^ 2045

abbrev top : ℕ
top = 2 ^ 2098

middle : (den : ℕ) → midway * den * 2 ≡ largest * den + top * den
middle den = mul_right_comm midway den 2 ∙ ap (λ (x : ℕ). x * den) halves ∙ add-mul largest top den
  where
    halves : midway * 2 ≡ largest + top
    halves = refl

below_top : (n den : ℕ) → 0 < den → n < midway * den → kept 53 n den * 2 ^ drop 53 n den < top
below_top n den D h =
    cancel (kept 53 n den * 2 ^ drop 53 n den) top
    (under (kept 53 n den * 2 ^ drop 53 n den * den) n (largest * den) (top * den) (midway * den) (middle den) (mul-lt-mul_of_pos_right (lit< tt) D) h
    (kept_near 53 n den (lit< tt) D (2 ^ 53 - 1) 2045 (lit< tt)))
  where
    cancel : (v H : ℕ) → v * den < H * den → v < H
    cancel v H h = elim (cases_lt v H) [ inl g ↦ g | inr g ↦ absurd (not-le_of_lt h (mul-le-mul_right den g)) ]

    clash : (vd n Ld Hd Md : ℕ) → Md * 2 ≡ Ld + Hd → Ld < Hd → n < Md → dist vd n ≤ dist Ld n → Hd ≤ vd → ⊥
    clash vd n Ld Hd Md e l h d g = omega arith

    under : (vd n Ld Hd Md : ℕ) → Md * 2 ≡ Ld + Hd → Ld < Hd → n < Md → dist vd n ≤ dist Ld n → vd < Hd
    under vd n Ld Hd Md e l h d = elim (cases_lt vd Hd) [ inl g ↦ g | inr g ↦ absurd (clash vd n Ld Hd Md e l h d g) ]

-- ---- from midway on everything does: the midpoint itself rounds to an infinity, and `round` keeps the order
abbrev midpoint : ℕ
midpoint = (2 ^ 54 - 1) * 2 ^ 970

at-midpoint : round binary64 false midpoint 1 ≡ inf false
unfolding round
at-midpoint = refl

not_finite : (x : Float) (a c : ℕ) → T (le (inf false) x) → HasValue x false a c → ⊥
unfolding le
not_finite nan a c t h = h
not_finite (inf s) a c t h = h
not_finite (fin s m e) a c t h = t

above-top : (num den : ℕ) → 0 < den → midway * den ≤ num * 2 ^ 1074 → top ≤ grid binary64 num den
above-top num den D h = elim (cases_lt (grid binary64 num den) top) [
  | inl g ↦ absurd (not_finite (round binary64 false num den) (grid binary64 num den) (2 ^ 1074)
      (subst (λ (x : Float). T (le x (round binary64 false num den))) at-midpoint (round_mono binary64 midpoint 1 num den (lit< tt) D crosswise))
      (round_val binary64 num den g))
  | inr g ↦ g
]
  where
    crosswise : midpoint * den ≤ num * 1
    crosswise = le_trans (le_of_mul-le-mul_right (le_trans (le_of_eq (mul_right_comm midpoint den (2 ^ 1074))) h) (pow_pos 1074)) (le_of_eq (sym (mul-one num)))

overflows : (s : Bool) (q k : ℕ) → top ≤ q * 2 ^ k → units binary64 s q k ≡ inf s
unfolding units
overflows s q k h = ap (λ (b : Bool). cond b (odd 54 s q k 1074) (inf s)) (le-ltb (q * 2 ^ k) top h)

-- ---- both
is-units : (x : Float) (s : Bool) (n : ℕ) → HasValue x s n (2 ^ 1074) → IsUnits x s n
is-units nan s n h = h
is-units (inf t) s n h = h
is-units (fin t m e) s n h = h

pub round-correct : (s : Bool) (num den : ℕ) → 0 < den → Rounded (round binary64 s num den) s num den
round-correct s num den D = record {
  over = λ h. round_is binary64 s num den ∙ overflows s (kept 53 (num * 2 ^ 1074) den) (drop 53 (num * 2 ^ 1074) den) (above-top num den D h);
  within = λ h.
      let n = num * 2 ^ 1074 in
      let f = significand n den D in (
        f.0,
        f.1,
        is-units (round binary64 s num den) s (f.0 * 2 ^ f.1)
            (subst (λ (x : Float). HasValue x s (f.0 * 2 ^ f.1) (2 ^ 1074)) (sym (round_is binary64 s num den))
            (subst (λ (v : ℕ). HasValue (units binary64 s (kept 53 n den) (drop 53 n den)) s v (2 ^ 1074)) (sym f.2)
            (units_val binary64 s (kept 53 n den) (drop 53 n den) (below_top n den D h)))),
        f.3,
      );
}
