-- Rounding keeps the order of the exact results, and so do sums with a number and products with a factor that is not negative.
-- That a float is not below another is said by `lt`, which is false wherever a NaN stands.
use Rattle.std.proofs.Common.{◌≡◌, ℕ, zero, suc, ◌+◌, ◌-◌, ◌*◌, ◌^◌, ◌<◌, ◌≤◌, Bool, true, false, cond, ◌&&◌, ◌||◌, eqb, ltb, ◌⊎◌, ℤ, sym, refl, ap, ◌∙◌, subst, inl, inr, le_trans, le_of_eq, le_refl, le_of_lt, mul-le-mul_right, mul_assoc, mul_comm, add-mul, add_comm, mul-pos, zero-mul, sub-add_cancel, mul_right_comm, le_of_mul-le-mul_right, mul_left_comm, arith, lit<, ltb-false, ltb-true, le-ltb, eqb-true}
use native.Mathlib.Nat.{eq_of_mul-eq-mul_right}
use lib.Ieee.{Float, nan, inf, fin, binary64, Format, prec, low, emax, up, down, unlike, odd, units, round, sum, add, mul, neg, lt, le, below, level}
use lib.Ieee.Bits.{is_true}
use lib.Ieee.Fits.{down_pos, round_is}
use lib.Ieee.Order.{round_mono}
use lib.Ieee.Scale.{round_same}
use Rattle.std.proofs.lemmas.Bool.{and_parts}
use Rattle.floats.specs.Arithmetic.{◌⊕◌, ◌⊗◌}
use Rattle.floats.proofs.Cases.{true-not-false, false-not-true}
use Rattle.floats.proofs.Numbers.{IsNumber, Signed, round-signed}

-- ---- what is at most another is not above it
or_cases : (a b : Bool) → a || b ≡ true → (a ≡ true) ⊎ (b ≡ true)
or_cases true b h = inl refl
or_cases false b h = inr h

at-most-not-above : (s : Bool) (a : ℕ) (t : Bool) (b : ℕ) → below s a t b || level s a t b ≡ true → below t b s a ≡ false
at-most-not-above false a false b h = elim (or_cases (ltb a b) (eqb a b && true) h) [
  | inl l ↦ le-ltb b a (le_of_lt (ltb-true a b l))
  | inr l ↦ le-ltb b a (le_of_eq (eqb-true a b (and_parts _ _ l).0))
]
at-most-not-above false a true b h = le-ltb 0 (b + a) (none a b (eqb-true a b (and_parts _ _ h).0) (eqb-true a 0 (and_parts _ _ h).1))
  where
    none : (x y : ℕ) → x ≡ y → x ≡ 0 → y + x ≤ 0
    none x y i j = omega arith
at-most-not-above true a false b h = refl
at-most-not-above true a true b h = elim (or_cases (ltb b a) (eqb a b && true) h) [
  | inl l ↦ le-ltb a b (le_of_lt (ltb-true b a l))
  | inr l ↦ le-ltb a b (le_of_eq (sym (eqb-true a b (and_parts _ _ l).0)))
]

pub le-not-above : (x y : Float) → le x y ≡ true → lt y x ≡ false
unfolding le
le-not-above nan y h = false-not-true h
le-not-above (inf s) nan h = false-not-true h
le-not-above (inf true) (inf true) h = refl
le-not-above (inf true) (inf false) h = refl
le-not-above (inf false) (inf true) h = false-not-true h
le-not-above (inf false) (inf false) h = refl
le-not-above (inf true) (fin t n g) h = refl
le-not-above (inf false) (fin t n g) h = false-not-true h
le-not-above (fin s m e) nan h = false-not-true h
le-not-above (fin s m e) (inf true) h = false-not-true h
le-not-above (fin s m e) (inf false) h = refl
le-not-above (fin s m e) (fin t n g) h = at-most-not-above s (m * up e * down g) t (n * up g * down e) h

-- ---- ±a is not below ±b
scaled : (s : Bool) (a : ℕ) (t : Bool) (b k : ℕ) → below s a t b ≡ false → below s (a * k) t (b * k) ≡ false
scaled false a false b k h = le-ltb (a * k) (b * k) (mul-le-mul_right k (ltb-false a b h))
scaled false a true b k h = refl
scaled true a false b k h = le-ltb 0 (a * k + b * k) (le_trans (le_of_eq (sym (add-mul a b k))) (le_trans (mul-le-mul_right k (ltb-false 0 (a + b) h)) (le_of_eq (zero-mul k))))
scaled true a true b k h = le-ltb (b * k) (a * k) (mul-le-mul_right k (ltb-false b a h))

unscaled : (s : Bool) (a : ℕ) (t : Bool) (b k : ℕ) → 0 < k → below s (a * k) t (b * k) ≡ false → below s a t b ≡ false
unscaled false a false b k K h = le-ltb a b (le_of_mul-le-mul_right (ltb-false (a * k) (b * k) h) K)
unscaled false a true b k K h = refl
unscaled true a false b k K h =
    le-ltb 0 (a + b) (le_of_mul-le-mul_right (le_trans (le_of_eq (add-mul a b k)) (le_trans (ltb-false 0 (a * k + b * k) h) (le_of_eq (sym (zero-mul k))))) K)
unscaled true a true b k K h = le-ltb b a (le_of_mul-le-mul_right (ltb-false (b * k) (a * k) h) K)

joined : (s : Bool) (a : ℕ) (t : Bool) (b : ℕ) (u : Bool) (c : ℕ) → below s a t b ≡ false → below t b u c ≡ false → below s a u c ≡ false
joined false a false b false c h i = omega (arith, ltb-false, le-ltb)
joined false a false b true c h i = refl
joined false a true b false c h i = omega (arith, ltb-false, le-ltb)
joined false a true b true c h i = refl
joined true a false b false c h i = omega (arith, ltb-false, le-ltb)
joined true a false b true c h i = omega (arith, ltb-false, le-ltb)
joined true a true b false c h i = omega (arith, ltb-false, le-ltb)
joined true a true b true c h i = omega (arith, ltb-false, le-ltb)

-- ---- nothing is above the upper infinity, below the lower one, or on either side of a NaN
pub below_nan : (x : Float) → lt x nan ≡ false
unfolding lt
below_nan nan = refl
below_nan (inf s) = refl
below_nan (fin s m e) = refl

pub below-lowest : (x : Float) → lt x (inf true) ≡ false
unfolding lt
below-lowest nan = refl
below-lowest (inf true) = refl
below-lowest (inf false) = refl
below-lowest (fin s m e) = refl

pub above-highest : (x : Float) → lt (inf false) x ≡ false
unfolding lt
above-highest nan = refl
above-highest (inf s) = refl
above-highest (fin s m e) = refl

-- ---- the order of floats
pub le-numbers : (x y : Float) → le x y ≡ true → IsNumber x × IsNumber y
unfolding le
le-numbers nan y h = false-not-true h
le-numbers (inf s) nan h = false-not-true h
le-numbers (inf s) (inf t) h = (tt, tt)
le-numbers (inf s) (fin t n d) h = (tt, tt)
le-numbers (fin s m e) nan h = false-not-true h
le-numbers (fin s m e) (inf t) h = (tt, tt)
le-numbers (fin s m e) (fin t n d) h = (tt, tt)

pub not-below-trans : (x y z : Float) → IsNumber y → lt x y ≡ false → lt y z ≡ false → lt x z ≡ false
unfolding lt
not-below-trans x nan z Y h i = absurd Y
not-below-trans x (inf true) nan Y h i = below_nan x
not-below-trans x (inf true) (inf true) Y h i = below-lowest x
not-below-trans x (inf true) (inf false) Y h i = true-not-false i
not-below-trans x (inf true) (fin u k g) Y h i = true-not-false i
not-below-trans nan (inf false) z Y h i = refl
not-below-trans (inf true) (inf false) z Y h i = true-not-false h
not-below-trans (inf false) (inf false) z Y h i = above-highest z
not-below-trans (fin s m e) (inf false) z Y h i = true-not-false h
not-below-trans nan (fin t n d) z Y h i = refl
not-below-trans (inf true) (fin t n d) z Y h i = true-not-false h
not-below-trans (inf false) (fin t n d) z Y h i = above-highest z
not-below-trans (fin s m e) (fin t n d) nan Y h i = refl
not-below-trans (fin s m e) (fin t n d) (inf true) Y h i = refl
not-below-trans (fin s m e) (fin t n d) (inf false) Y h i = true-not-false i
not-below-trans (fin s m e) (fin t n d) (fin u k g) Y h i =
    let a = scaled s (m * up e * down d) t (n * up d * down e) (down g) h in
    let b = scaled t (n * up d * down g) u (k * up g * down d) (down e) i in
    let c = joined s (m * up e * down d * down g) t (n * up d * down e * down g) u (k * up g * down d * down e) a (rw (mul_right_comm (n * up d) (down e) (down g)) b) in
    unscaled s (m * up e * down g) u (k * up g * down e) (down d) (down_pos d) (rw (mul_right_comm (m * up e) (down g) (down d), mul_right_comm (k * up g) (down e) (down d)) c)

-- ---- the negative of a rounded number
neg-odd : (d q k l : ℕ) → odd d true q k l ≡ neg (odd d false q k l)
unfolding odd neg
neg-odd d zero k l = refl
neg-odd d (suc q) k l = refl

neg-units : (f : Format) (q k : ℕ) → units f true q k ≡ neg (units f false q k)
unfolding units neg
neg-units f q k = go (ltb (q * 2 ^ k) (2 ^ (low f + suc (emax f))))
  where
    go : (b : Bool) → cond b (odd (suc (prec f)) true q k (low f)) (inf true) ≡ neg (cond b (odd (suc (prec f)) false q k (low f)) (inf false))
    go true = neg-odd (suc (prec f)) q k (low f)
    go false = refl

neg-round : (f : Format) (n c : ℕ) → round f true n c ≡ neg (round f false n c)
neg-round f n c = round_is f true n c ∙ neg-units f _ _ ∙ ap neg (sym (round_is f false n c))

neg-lt : (x y : Float) → lt (neg x) (neg y) ≡ lt y x
unfolding lt neg
neg-lt nan y = sym (below_nan y)
neg-lt (inf s) nan = refl
neg-lt (inf true) (inf true) = refl
neg-lt (inf true) (inf false) = refl
neg-lt (inf false) (inf true) = refl
neg-lt (inf false) (inf false) = refl
neg-lt (inf s) (fin t n d) = refl
neg-lt (fin s m e) nan = refl
neg-lt (fin s m e) (inf true) = refl
neg-lt (fin s m e) (inf false) = refl
neg-lt (fin true m e) (fin true n d) = refl
neg-lt (fin true m e) (fin false n d) = refl
neg-lt (fin false m e) (fin true n d) = ap (ltb 0) (add_comm (m * up e * down d) (n * up d * down e))
neg-lt (fin false m e) (fin false n d) = refl

-- ---- a number without its sign set is not below the opposite of another
positive-above : (x y : Float) → Signed x false → Signed y false → lt x (neg y) ≡ false
unfolding lt neg
positive-above nan y p q = refl
positive-above (inf true) y p q = true-not-false p
positive-above (inf false) y p q = above-highest (neg y)
positive-above (fin s m e) nan p q = refl
positive-above (fin s m e) (inf true) p q = true-not-false q
positive-above (fin s m e) (inf false) p q = refl
positive-above (fin true m e) (fin t n d) p q = true-not-false p
positive-above (fin false m e) (fin true n d) p q = true-not-false q
positive-above (fin false m e) (fin false n d) p q = refl

-- ---- of two fractions ±n / c and ±m / d
zeros : lt (round binary64 true 0 1) (round binary64 false 0 1) ≡ false
unfolding lt round
zeros = refl

pub round-order : (s : Bool) (n c : ℕ) (t : Bool) (m d : ℕ) → 0 < c → 0 < d → below s (n * d) t (m * c) ≡ false → lt (round binary64 s n c) (round binary64 t m d) ≡ false
round-order false n c false m d C D h =
    le-not-above (round binary64 false m d) (round binary64 false n c) (is_true _ (round_mono binary64 m d n c D C (ltb-false (n * d) (m * c) h)))
round-order false n c true m d C D h = rw (neg-round binary64 m d) (positive-above (round binary64 false n c) (round binary64 false m d) (round-signed false n c C) (round-signed false m d D))
round-order true n c false m d C D h =
    let o = ltb-false 0 (n * d + m * c) h in
    rw (nothing true n c d C D (first (n * d) (m * c) o), nothing false m d c D C (second (n * d) (m * c) o)) zeros
  where
    first : (x y : ℕ) → x + y ≤ 0 → x ≡ 0
    first x y o = omega arith

    second : (x y : ℕ) → x + y ≤ 0 → y ≡ 0
    second x y o = omega arith

    nothing : (u : Bool) (x y k : ℕ) → 0 < y → 0 < k → x * k ≡ 0 → round binary64 u x y ≡ round binary64 u 0 1
    nothing u x y k Y K e =
        let z : x ≡ 0 = eq_of_mul-eq-mul_right k K x 0 (e ∙ sym (zero-mul k)) in
        round_same binary64 u x y 0 1 Y (lit< tt) (rw z (sym (zero-mul y)))
round-order true n c true m d C D h =
    rw (neg-round binary64 n c, neg-round binary64 m d, neg-lt (round binary64 false n c) (round binary64 false m d))
    (le-not-above (round binary64 false n c) (round binary64 false m d) (is_true _ (round_mono binary64 n c m d C D (ltb-false (m * c) (n * d) h))))

-- ---- sums
-- ±a stands at p: a places above z, or below it
abbrev Place : Bool → ℕ → ℕ → ℕ → Type 0
Place false a z p = p ≡ z + a
Place true a z p = p + a ≡ z

placed : (s : Bool) (a z : ℕ) → a ≤ z → (p : ℕ) × Place s a z p
placed false a z h = (z + a, refl)
placed true a z h = (z - a, sub-add_cancel h)

place-order : (s : Bool) (a : ℕ) (t : Bool) (b z p q : ℕ) → Place s a z p → Place t b z q → below s a t b ≡ false → q ≤ p
place-order false a false b z p q i j h = omega (arith, ltb-false)
place-order false a true b z p q i j h = omega arith
place-order true a false b z p q i j h = omega (arith, ltb-false)
place-order true a true b z p q i j h = omega (arith, ltb-false)

place-not-below : (s : Bool) (a : ℕ) (t : Bool) (b z p q : ℕ) → Place s a z p → Place t b z q → q ≤ p → below s a t b ≡ false
place-not-below false a false b z p q i j h = omega (arith, le-ltb)
place-not-below false a true b z p q i j h = refl
place-not-below true a false b z p q i j h = omega (arith, le-ltb)
place-not-below true a true b z p q i j h = omega (arith, le-ltb)

-- ±a / c ± b / c is a fraction rounded; times k it stands where the two sizes times k lead
record Sum (s : Bool) (a : ℕ) (t : Bool) (b c k z p : ℕ) : Type 0 where
  sign : Bool
  size : ℕ
  is : sum binary64 s a t b c ≡ round binary64 sign size c
  place : Place sign (size * k) z p

less : (a b k : ℕ) → b ≤ a → (a - b) * k + b * k ≡ a * k
less a b k h = sym (add-mul (a - b) b k) ∙ ap (λ (x : ℕ). x * k) (sub-add_cancel h)

module _ (a b c k z p y q : ℕ) where
  sum-at : (s t : Bool) → Place s (a * k) z p → Place t (b * k) y q → Sum s a t b c k (z + y) (p + q)
  unfolding sum
  sum-at false false i j = record { sign = false; size = a + b; is = refl; place = omega (arith, add-mul a b k) }
  sum-at true true i j = record { sign = true; size = a + b; is = refl; place = omega (arith, add-mul a b k) }
  sum-at false true i j = go (ltb a b) refl
    where
      go : (u : Bool) → ltb a b ≡ u → Sum false a true b c k (z + y) (p + q)
      go true h = record { sign = true; size = b - a; is = rw h; place = omega (arith, less b a k (le_of_lt (ltb-true a b h))) }
      go false h = record { sign = false; size = a - b; is = rw h; place = omega (arith, less a b k (ltb-false a b h)) }
  sum-at true false i j = go (ltb a b) (ltb b a) refl refl
    where
      go : (u v : Bool) → ltb a b ≡ u → ltb b a ≡ v → Sum true a false b c k (z + y) (p + q)
      go true v h l = record { sign = false; size = b - a; is = rw h; place = omega (arith, less b a k (le_of_lt (ltb-true a b h))) }
      go false true h l = record { sign = true; size = a - b; is = rw (h, l); place = omega (arith, less a b k (ltb-false a b h)) }
      go false false h l = record { sign = false; size = a - b; is = rw (h, l); place = omega (arith, less a b k (ltb-false a b h), mul-le-mul_right k (ltb-false b a l)) }

-- the same number added to two
sum-order : (s : Bool) (a c : ℕ) (u : Bool) (x d : ℕ) (t : Bool) (b y : ℕ) → 0 < c → 0 < d → b * d ≡ y * c → below s (a * d) u (x * c) ≡ false
    → lt (sum binary64 s a t b c) (sum binary64 u x t y d) ≡ false
sum-order s a c u x d t b y C D e h =
    let z = a * d + x * c in
    let p = placed s (a * d) z (first (a * d) (x * c)) in
    let q = placed u (x * c) z (second (a * d) (x * c)) in
    let r = placed t (b * d) (b * d) (le_refl (b * d)) in
    let v = sum-at a b c d z p.0 (b * d) r.0 s t p.1 r.1 in
    let w = sum-at x y d c z q.0 (b * d) r.0 u t q.1 (subst (λ (n : ℕ). Place t n (b * d) r.0) e r.1) in
    let o = place-order s (a * d) u (x * c) z p.0 q.0 p.1 q.1 h in
    rw (v.is, w.is)
    (round-order v.sign v.size c w.sign w.size d C D
    (place-not-below v.sign (v.size * d) w.sign (w.size * c) (z + b * d) (p.0 + r.0) (q.0 + r.0) v.place w.place (omega arith)))
  where
    first : (i j : ℕ) → i ≤ i + j
    first i j = omega arith

    second : (i j : ℕ) → j ≤ i + j
    second i j = omega arith

highest-sum : (x y : Float) → lt (inf false ⊕ x) y ≡ false
unfolding add lt
highest-sum nan y = refl
highest-sum (inf true) y = refl
highest-sum (inf false) y = above-highest y
highest-sum (fin s m e) y = above-highest y

lowest-sum : (x y : Float) → lt y (inf true ⊕ x) ≡ false
unfolding add
lowest-sum nan y = below_nan y
lowest-sum (inf true) y = below-lowest y
lowest-sum (inf false) y = below_nan y
lowest-sum (fin s m e) y = below-lowest y

pub add-order : (x y z : Float) → lt x y ≡ false → lt (x ⊕ z) (y ⊕ z) ≡ false
unfolding add lt
add-order nan y z h = refl
add-order (inf true) nan z h = below_nan (inf true ⊕ z)
add-order (inf true) (inf true) z h = lowest-sum z (inf true ⊕ z)
add-order (inf true) (inf false) z h = true-not-false h
add-order (inf true) (fin t n d) z h = true-not-false h
add-order (inf false) y z h = highest-sum z (y ⊕ z)
add-order (fin s m e) nan z h = below_nan (fin s m e ⊕ z)
add-order (fin s m e) (inf true) z h = lowest-sum z (fin s m e ⊕ z)
add-order (fin s m e) (inf false) z h = true-not-false h
add-order (fin s m e) (fin t n d) nan h = refl
add-order (fin s m e) (fin t n d) (inf true) h = refl
add-order (fin s m e) (fin t n d) (inf false) h = refl
add-order (fin s m e) (fin t n d) (fin u k g) h =
    sum-order s (m * up e * down g) (down e * down g) t (n * up d * down g) (down d * down g) u (k * up g * down e) (k * up g * down d)
    (mul-pos (down_pos e) (down_pos g)) (mul-pos (down_pos d) (down_pos g)) (crosswise (k * up g) (down e) (down d) (down g))
    (rw (widened (m * up e) (down d) (down g), widened (n * up d) (down e) (down g)) (scaled s (m * up e * down d) t (n * up d * down e) (down g * down g) h))
  where
    crosswise : (a b c i : ℕ) → a * b * (c * i) ≡ a * c * (b * i)
    crosswise a b c i = simp (mul_assoc, mul_left_comm)

    widened : (a b i : ℕ) → a * i * (b * i) ≡ a * b * (i * i)
    widened a b i = simp (mul_assoc, mul_left_comm)

-- ---- products with a factor that is not negative
unlike-positive : (s : Bool) → unlike false s ≡ s
unlike-positive true = refl
unlike-positive false = refl

pub mul-order : (m : ℕ) (e : ℤ) (s : Bool) (n : ℕ) (d : ℤ) (t : Bool) (k : ℕ) (g : ℤ) → lt (fin s n d) (fin t k g) ≡ false → lt (fin false m e ⊗ fin s n d) (fin false m e ⊗ fin t k g) ≡ false
unfolding mul lt
mul-order m e s n d t k g h =
    rw (unlike-positive s, unlike-positive t)
    (round-order s (m * up e * (n * up d)) (down e * down d) t (m * up e * (k * up g)) (down e * down g) (mul-pos (down_pos e) (down_pos d)) (mul-pos (down_pos e) (down_pos g))
    (rw (apart (m * up e) (n * up d) (down e) (down g), apart (m * up e) (k * up g) (down e) (down d)) (scaled s (n * up d * down g) t (k * up g * down d) (m * up e * down e) h)))
  where
    apart : (a b c i : ℕ) → a * b * (c * i) ≡ b * i * (a * c)
    apart a b c i = simp (mul_assoc, mul_comm, mul_left_comm)
