-- Two floats of binary64 that are both a result rounded once are equal: `Nearest` pins the size in units, and a size in units the float.
use Rattle.std.proofs.Common.{◌≡◌, ℕ, zero, suc, ◌+◌, ◌-◌, ◌*◌, ◌/◌, ◌%◌, ◌^◌, ◌<◌, ◌≤◌, Bool, ◌&&◌, T, eqb, ltb, leb, ◌⊎◌, ℤ, pos, negsuc, sym, refl, ap, ◌∙◌, subst, inl, inr, zero-le, le_trans, le_of_eq, lt_of_lt_of_le, lt_irrefl, mul-le-mul_right, zero-lt-suc, mul_assoc, le_antisymm, lt_of_mul-lt-mul_right, eq-or-lt_of_le, mul-lt-mul_of_pos_right, mul-pos, one-mul, pow-suc, zero-mul, mul-one, mul_right_comm, not-le_of_lt, mul_left_comm, arith, lit<, eqb→eq, ltb→lt, leb→le, pow_pos, pow_mono, pow-add}
use native.Mathlib.Nat.{eq_of_mul-eq-mul_right, mul-mod_left, pow-succ'}
use lib.Pow.{pow-lt}
use lib.Ieee.{Float, fin, binary64, up, down, fits}
use lib.Ieee.Fits.{and_l, and_r, down_pos}
use lib.Ieee.Digits.{back}
use Rattle.std.proofs.lemmas.Bool.{cases_lt}
use Rattle.floats.specs.Rounding.{dist, IsUnits, Nearest, midway, Rounded, Candidate, Finite}
use Rattle.floats.proofs.Rounding.Kept.{at-exponent}

-- ---- `Nearest` pins the size: two even significands that are equally near have one between them that is nearer

-- with an exponent below k, a candidate lies below q * 2 ^ k
beneath : (q k p j : ℕ) → (k ≡ 0) ⊎ (2 ^ 52 ≤ q) → p < 2 ^ 53 → j < k → p * 2 ^ j < q * 2 ^ k
beneath q k p j l P h = elim l [
  | inl z ↦ absurd (none j k h z)
  | inr Q ↦
      lt_of_lt_of_le (mul-lt-mul_of_pos_right P (pow_pos j))
      (le_trans (le_of_eq (sym (pow-add 2 53 j))) (le_trans (pow_mono (shift j k h)) (le_trans (le_of_eq (pow-add 2 52 k)) (mul-le-mul_right (2 ^ k) Q))))
]
  where
    none : (x y : ℕ) → x < y → y ≡ 0 → ⊥
    none x y a b = omega arith

    shift : (x y : ℕ) → x < y → 53 + x ≤ 52 + y
    shift x y a = omega arith

even-mul : (y z : ℕ) → y % 2 ≡ 0 → y * z % 2 ≡ 0
even-mul y z h = ap (λ (x : ℕ). x * z % 2) (halves y h) ∙ ap (λ (x : ℕ). x % 2) (mul_right_comm (y / 2) 2 z) ∙ mul-mod_left (y / 2 * z) 2
  where
    halves : (x : ℕ) → x % 2 ≡ 0 → x ≡ x / 2 * 2
    halves x g = omega arith

-- n lies midway between x and z, so what lies between them is nearer
between : (x y z n : ℕ) → x < y → y < z → dist x n ≡ dist z n → dist x n ≤ dist y n → ⊥
between x y z n a b e h = omega arith

module _ (n den : ℕ) (D : 0 < den) where
  not-both-even : (q k p j : ℕ) → Nearest n den q k → Nearest n den p j → q % 2 ≡ 0 → p % 2 ≡ 0 → dist (q * 2 ^ k * den) n ≡ dist (p * 2 ^ j * den) n → q * 2 ^ k < p * 2 ^ j → ⊥
  not-both-even q k p j N M eq ep d h = elim (cases_lt j k) [
    | inl l ↦ crossed (p * 2 ^ j) (q * 2 ^ k) (beneath q k p j N.leading M.digits l) h
    | inr l ↦
        let z = p * 2 ^ (j - k) in
        let e : z * 2 ^ k ≡ p * 2 ^ j = at-exponent p j k l in
        let g : q < z = lt_of_mul-lt-mul_right (2 ^ k) (subst (λ (x : ℕ). q * 2 ^ k < x) (sym e) h) in
        let m : suc q < z = two-more q z eq (even-mul p (2 ^ (j - k)) ep) g in
        between (q * 2 ^ k * den) (suc q * 2 ^ k * den) (p * 2 ^ j * den) n (mul-lt-mul_of_pos_right (mul-lt-mul_of_pos_right (step q) (pow_pos k)) D)
        (mul-lt-mul_of_pos_right (subst (λ (x : ℕ). suc q * 2 ^ k < x) e (mul-lt-mul_of_pos_right m (pow_pos k))) D) d (N.near (suc q) k (room q eq N.digits))
  ]
    where
      crossed : (x y : ℕ) → x < y → y < x → ⊥
      crossed x y a b = omega arith

      step : (x : ℕ) → x < suc x
      step x = omega arith

      two-more : (x y : ℕ) → x % 2 ≡ 0 → y % 2 ≡ 0 → x < y → suc x < y
      two-more x y a b h = omega arith

      room : (q : ℕ) → q % 2 ≡ 0 → q < 2 ^ 53 → suc q < 2 ^ 53
      room q a b = omega arith

  nearest-unique : (q k p j : ℕ) → Nearest n den q k → Nearest n den p j → q * 2 ^ k ≡ p * 2 ^ j
  nearest-unique q k p j N M =
      let d : dist (q * 2 ^ k * den) n ≡ dist (p * 2 ^ j * den) n = le_antisymm (N.near p j M.digits) (M.near q k N.digits) in
      elim (N.even p j M.digits d) [
        | inl e ↦ sym e
        | inr eq ↦ elim (M.even q k N.digits (sym d)) [
          | inl e ↦ e
          | inr ep ↦ elim (cases_lt (q * 2 ^ k) (p * 2 ^ j)) [
            | inl h ↦ absurd (not-both-even q k p j N M eq ep d h)
            | inr h ↦ elim (eq-or-lt_of_le h) [ inl e ↦ sym e | inr g ↦ absurd (not-both-even p j q k M N ep eq (sym d) g) ]
          ]
        ]
      ]

-- ---- a size in units pins the float: its odd part is the significand, and its power of two the exponent

-- a float's exponent counted from 2 ^ -1074
abbrev in_units : ℤ → ℕ
in_units (pos k) = k + 1074
in_units (negsuc k) = 1074 - suc k

exponent-bound : (k : ℕ) → 2 ^ suc k ≤ 2 ^ 1074 → suc k ≤ 1074
exponent-bound k h = elim (cases_lt 1074 (suc k)) [ inl g ↦ absurd (not-le_of_lt (pow-lt g) h) | inr g ↦ g ]

in-units : (m : ℕ) (e : ℤ) → down e ≤ 2 ^ 1074 → m * up e * 2 ^ 1074 ≡ m * 2 ^ in_units e * down e
in-units m (pos k) h = mul_assoc m (2 ^ k) (2 ^ 1074) ∙ ap (λ (x : ℕ). m * x) (sym (pow-add 2 k 1074)) ∙ sym (mul-one (m * 2 ^ (k + 1074)))
in-units m (negsuc k) h =
    ap (λ (x : ℕ). x * 2 ^ 1074) (mul-one m)
    ∙ ap (λ (x : ℕ). m * x) (ap (λ (x : ℕ). 2 ^ x) (sym (back 1074 (suc k) (exponent-bound k h))) ∙ pow-add 2 (1074 - suc k) (suc k))
    ∙ sym (mul_assoc m (2 ^ (1074 - suc k)) (2 ^ suc k))

same-exponent : (e d : ℤ) → down e ≤ 2 ^ 1074 → down d ≤ 2 ^ 1074 → in_units e ≡ in_units d → e ≡ d
same-exponent (pos k) (pos l) h g q = ap pos (cancel k l q)
  where
    cancel : (k l : ℕ) → k + 1074 ≡ l + 1074 → k ≡ l
    cancel k l q = omega arith
same-exponent (pos k) (negsuc l) h g q = absurd (clash k l q)
  where
    clash : (k l : ℕ) → k + 1074 ≡ 1074 - suc l → ⊥
    clash k l q = omega arith
same-exponent (negsuc k) (pos l) h g q = absurd (clash k l q)
  where
    clash : (k l : ℕ) → 1074 - suc k ≡ l + 1074 → ⊥
    clash k l q = omega arith
same-exponent (negsuc k) (negsuc l) h g q = ap negsuc (cancel k l (exponent-bound k h) (exponent-bound l g) q)
  where
    cancel : (k l : ℕ) → suc k ≤ 1074 → suc l ≤ 1074 → 1074 - suc k ≡ 1074 - suc l → k ≡ l
    cancel k l a b q = omega arith

odd-not-double : (m t : ℕ) → m % 2 ≡ 1 → m ≡ 2 * t → ⊥
odd-not-double m t o h = omega arith

odd_part : (m n a b : ℕ) → m % 2 ≡ 1 → n % 2 ≡ 1 → m * 2 ^ a ≡ n * 2 ^ b → (m ≡ n) × (a ≡ b)
odd_part m n zero zero o p h = (sym (mul-one m) ∙ h ∙ mul-one n, refl)
odd_part m n zero (suc b) o p h = absurd (odd-not-double m (n * 2 ^ b) o (sym (mul-one m) ∙ h ∙ ap (λ (x : ℕ). n * x) (pow-succ' 2 b) ∙ mul_left_comm n 2 (2 ^ b)))
odd_part m n (suc a) zero o p h = absurd (odd-not-double n (m * 2 ^ a) p (sym (mul-one n) ∙ sym h ∙ ap (λ (x : ℕ). m * x) (pow-succ' 2 a) ∙ mul_left_comm m 2 (2 ^ a)))
odd_part m n (suc a) (suc b) o p h =
    let r = odd_part m n a b o p (eq_of_mul-eq-mul_right 2 (zero-lt-suc 1) (m * 2 ^ a) (n * 2 ^ b)
    (mul_assoc m (2 ^ a) 2 ∙ ap (λ (x : ℕ). m * x) (sym (pow-suc 2 a)) ∙ h ∙ ap (λ (x : ℕ). n * x) (pow-suc 2 b) ∙ sym (mul_assoc n (2 ^ b) 2))) in
    (r.0, ap suc r.1)

-- what `fits` says of a float above 0 in size
record Fitting (m : ℕ) (e : ℤ) : Type 0 where
  is_odd : m % 2 ≡ 1
  digits : m < 2 ^ 53
  exponent : down e ≤ 2 ^ 1074

fitting : (s : Bool) (m : ℕ) (e : ℤ) → T (fits binary64 (fin s (suc m) e)) → Fitting (suc m) e
unfolding fits
fitting s m e F =
    let a : Bool = eqb (suc m % 2) 1 in
    let b : Bool = ltb (suc m) (2 ^ 53) in
    let c : Bool = leb (down e) (2 ^ 1074) in
    let d : Bool = ltb (suc m * up e) (2 ^ 1024 * down e) in
    let abc = and_l (a && b && c) d F in
    record {
      is_odd = eqb→eq (suc m % 2) 1 (and_l a b (and_l (a && b) c abc));
      digits = ltb→lt (suc m) (2 ^ 53) (and_r a b (and_l (a && b) c abc));
      exponent = leb→le (down e) (2 ^ 1074) (and_r (a && b) c abc);
    }

-- the exponent of a zero is 0
zero_exponent : (s : Bool) (e : ℤ) → T (fits binary64 (fin s zero e)) → e ≡ pos 0
unfolding fits
zero_exponent s e F = flat e (eqb→eq (up e * down e) 1 F)
  where
    double : (p : ℕ) → 0 < p → 2 * p ≡ 1 → ⊥
    double p h e = omega arith

    flat : (e : ℤ) → up e * down e ≡ 1 → e ≡ pos 0
    flat (pos zero) h = refl
    flat (pos (suc k)) h = absurd (double (2 ^ k) (pow_pos k) (sym (pow-succ' 2 k) ∙ sym (mul-one (2 ^ suc k)) ∙ h))
    flat (negsuc k) h = absurd (double (2 ^ k) (pow_pos k) (sym (pow-succ' 2 k) ∙ sym (one-mul (2 ^ suc k)) ∙ h))

-- the units of a float above 0 in size, with its odd part
odd-units : (m : ℕ) (e : ℤ) (n : ℕ) → Fitting m e → m * up e * 2 ^ 1074 ≡ n * down e → m * 2 ^ in_units e ≡ n
odd-units m e n F v = eq_of_mul-eq-mul_right (down e) (down_pos e) (m * 2 ^ in_units e) n (sym (in-units m e F.exponent) ∙ v)

above_zero : (m a n : ℕ) → suc m * 2 ^ a ≡ n → n ≡ 0 → ⊥
above_zero m a n h z = lt_irrefl 0 (subst (λ (x : ℕ). 0 < x) (h ∙ z) (mul-pos (zero-lt-suc m) (pow_pos a)))

zero-units : (e : ℤ) (n : ℕ) → zero * up e * 2 ^ 1074 ≡ n * down e → n ≡ 0
zero-units e n v = eq_of_mul-eq-mul_right (down e) (down_pos e) n 0 (sym v ∙ ap (λ (x : ℕ). x * 2 ^ 1074) (zero-mul (up e)) ∙ zero-mul (2 ^ 1074) ∙ sym (zero-mul (down e)))

units-unique : (x y : Float) (s : Bool) (n : ℕ) → T (fits binary64 x) → T (fits binary64 y) → IsUnits x s n → IsUnits y s n → x ≡ y
units-unique lib.Ieee.nan y s n F G v w = absurd v
units-unique (lib.Ieee.inf _) y s n F G v w = absurd v
units-unique (fin t zero e) lib.Ieee.nan s n F G v w = absurd w
units-unique (fin t zero e) (lib.Ieee.inf _) s n F G v w = absurd w
units-unique (fin t (suc m) e) lib.Ieee.nan s n F G v w = absurd w
units-unique (fin t (suc m) e) (lib.Ieee.inf _) s n F G v w = absurd w
units-unique (fin t zero e) (fin u zero d) s n F G v w = λ i. fin ((v.0 ∙ sym w.0) i) zero ((zero_exponent t e F ∙ sym (zero_exponent u d G)) i)
units-unique (fin t zero e) (fin u (suc l) d) s n F G v w = absurd (above_zero l (in_units d) n (odd-units (suc l) d n (fitting u l d G) w.1) (zero-units e n v.1))
units-unique (fin t (suc m) e) (fin u zero d) s n F G v w = absurd (above_zero m (in_units e) n (odd-units (suc m) e n (fitting t m e F) v.1) (zero-units d n w.1))
units-unique (fin t (suc m) e) (fin u (suc l) d) s n F G v w =
    let f = fitting t m e F in
    let g = fitting u l d G in
    let r = odd_part (suc m) (suc l) (in_units e) (in_units d) f.is_odd g.is_odd (odd-units (suc m) e n f v.1 ∙ sym (odd-units (suc l) d n g w.1)) in
    λ i. fin ((v.0 ∙ sym w.0) i) (r.0 i) (same-exponent e d f.exponent g.exponent r.1 i)

-- ---- so a result rounded once is determined, and every finite float is a candidate

pub rounded-unique : (x y : Float) (s : Bool) (num den : ℕ) → T (fits binary64 x) → T (fits binary64 y) → Rounded x s num den → Rounded y s num den → x ≡ y
rounded-unique x y s num den F G R S = elim (cases_lt (num * 2 ^ 1074) (midway * den)) [
  | inl h ↦
      let a = R.within h in
      let b = S.within h in
      let e : a.0 * 2 ^ a.1 ≡ b.0 * 2 ^ b.1 = nearest-unique (num * 2 ^ 1074) den (positive den h) a.0 a.1 b.0 b.1 a.3 b.3 in
      units-unique x y s (b.0 * 2 ^ b.1) F G (subst (λ (n : ℕ). IsUnits x s n) e a.2) b.2
  | inr h ↦ R.over h ∙ sym (S.over h)
]
  where
    positive : (d : ℕ) → num * 2 ^ 1074 < midway * d → 0 < d
    positive zero h = absurd (not-le_of_lt h zero-le)
    positive (suc d) h = zero-lt-suc d

pub finite-candidate : (x : Float) → T (fits binary64 x) → Finite x → Candidate x
finite-candidate lib.Ieee.nan F f = absurd f
finite-candidate (lib.Ieee.inf _) F f = absurd f
finite-candidate (fin s zero e) F f = (0, 0, lit< tt, (refl, ap (λ (x : ℕ). x * 2 ^ 1074) (zero-mul (up e)) ∙ sym (zero-mul (down e))))
finite-candidate (fin s (suc m) e) F f = let g = fitting s m e F in (suc m, in_units e, g.digits, (refl, in-units (suc m) e g.exponent))
