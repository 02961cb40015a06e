-- Differences along an axis: over a common denominator c, and z places up so that none is below 0, floats are natural numbers in their order, and their differences round those of the numbers.
use Rattle.std.proofs.Common.{◌≡◌, ℕ, ◌+◌, ◌-◌, ◌*◌, ◌<◌, ◌≤◌, Bool, true, false, cond, ltb, ℤ, sym, refl, ap, ◌∙◌, le_trans, le_of_eq, mul-le-mul_right, mul_assoc, mul_comm, add-mul, mul-pos, zero-mul, mul_right_comm, le_of_mul-le-mul_right, arith, ltb-false, le-ltb}
use native.Mathlib.Nat.{mul-sub}
use lib.Ieee.{Float, nan, inf, fin, binary64, up, down, round, sum, sub, lt}
use lib.Ieee.Fits.{down_pos}
use lib.Ieee.Exact.{HasValue}
use lib.Ieee.Scale.{round_same}
use Rattle.floats.specs.Arithmetic.{◌⊖◌}
use Rattle.floats.proofs.Cases.{true-not-false, false-not-true}

-- ---- places
-- x stands at p: z and its size over c, or z less it
abbrev pub Stands : Float → ℕ → ℕ → ℕ → Type 0
Stands nan c z p = ⊥
Stands (inf s) c z p = ⊥
Stands (fin false m e) c z p = (u : ℕ) × (m * up e * c ≡ u * down e) × (p ≡ z + u)
Stands (fin true m e) c z p = (u : ℕ) × (m * up e * c ≡ u * down e) × (p + u ≡ z)

-- a value that is not negative, from 0 on
pub value-stands : (x : Float) (n c : ℕ) → HasValue x false n c → Stands x c 0 n
value-stands nan n c h = absurd h
value-stands (inf s) n c h = absurd h
value-stands (fin true m e) n c h = true-not-false h.0
value-stands (fin false m e) n c h = (n, h.1, omega arith)

-- two sizes over c, which are a and b over their common denominator d
record Sizes (c d a b u v : ℕ) : Type 0 where
  above : 0 < c
  common : 0 < d
  first : a * c ≡ u * d
  second : b * c ≡ v * d

sizes : (m : ℕ) (e : ℤ) (n : ℕ) (g : ℤ) (c u v : ℕ) → 0 < c → m * up e * c ≡ u * down e → n * up g * c ≡ v * down g
    → Sizes c (down e * down g) (m * up e * down g) (n * up g * down e) u v
sizes m e n g c u v C p q = record {
  above = C;
  common = mul-pos (down_pos e) (down_pos g);
  first = scaled (m * up e) (down e) (down g) u p;
  second = scaled (n * up g) (down g) (down e) v q ∙ ap (λ (x : ℕ). v * x) (mul_comm (down g) (down e));
}
  where
    scaled : (x i j w : ℕ) → x * c ≡ w * i → x * j * c ≡ w * (i * j)
    scaled x i j w k = mul_right_comm x j c ∙ ap (λ (y : ℕ). y * j) k ∙ mul_assoc w i j

exchanged : {c d a b u v : ℕ} → Sizes c d a b u v → Sizes c d b a v u
exchanged s = record { above = s.above; common = s.common; first = s.second; second = s.first }

order : {c d a b u v : ℕ} → Sizes c d a b u v → b ≤ a → v ≤ u
order {c} s h = le_of_mul-le-mul_right (le_trans (le_of_eq (sym s.second)) (le_trans (mul-le-mul_right c h) (le_of_eq s.first))) s.common

order-back : {c d a b u v : ℕ} → Sizes c d a b u v → v ≤ u → b ≤ a
order-back {c} {d} s h = le_of_mul-le-mul_right (le_trans (le_of_eq s.second) (le_trans (mul-le-mul_right d h) (le_of_eq (sym s.first)))) s.above

none : {c d a b u v : ℕ} → Sizes c d a b u v → a ≤ 0 → u ≤ 0
none {c} {d} s h = le_of_mul-le-mul_right (le_trans (le_of_eq (sym s.first)) (le_trans (mul-le-mul_right c h) (le_of_eq (zero-mul c ∙ sym (zero-mul d))))) s.common

-- the sum and the difference of a and b, rounded, are those of u and v
module _ {c d a b u v : ℕ} (s : Sizes c d a b u v) (t : Bool) (n : ℕ) where
  sum-rounds : u + v ≡ n → round binary64 t (a + b) d ≡ round binary64 t n c
  sum-rounds h =
      round_same binary64 t (a + b) d n c s.common s.above
      (add-mul a b c ∙ ap (λ (x : ℕ). x + b * c) s.first ∙ ap (λ (x : ℕ). u * d + x) s.second ∙ sym (add-mul u v d) ∙ ap (λ (x : ℕ). x * d) h)

  difference-rounds : u - v ≡ n → round binary64 t (a - b) d ≡ round binary64 t n c
  difference-rounds h =
      round_same binary64 t (a - b) d n c s.common s.above
      (sub-mul a b c ∙ ap (λ (x : ℕ). x - b * c) s.first ∙ ap (λ (x : ℕ). u * d - x) s.second ∙ sym (sub-mul u v d) ∙ ap (λ (x : ℕ). x * d) h)
    where
      sub-mul : (i j k : ℕ) → (i - j) * k ≡ i * k - j * k
      sub-mul i j k = mul_comm (i - j) k ∙ mul-sub k i j ∙ ap (λ (x : ℕ). x - k * j) (mul_comm k i) ∙ ap (λ (x : ℕ). i * k - x) (mul_comm k j)

-- ---- the order of places
pub places-ordered : (x l : Float) (c z p q : ℕ) → 0 < c → Stands x c z p → Stands l c z q → lt x l ≡ false → q ≤ p
unfolding lt
places-ordered nan l c z p q C i j h = absurd i
places-ordered (inf s) l c z p q C i j h = absurd i
places-ordered (fin s m e) nan c z p q C i j h = absurd j
places-ordered (fin s m e) (inf t) c z p q C i j h = absurd j
places-ordered (fin false m e) (fin false n g) c z p q C (u, k, f) (v, l, w) h =
    let r = order (sizes m e n g c u v C k l) (ltb-false (m * up e * down g) (n * up g * down e) h) in
    omega arith
places-ordered (fin false m e) (fin true n g) c z p q C (u, k, f) (v, l, w) h = omega arith
places-ordered (fin true m e) (fin false n g) c z p q C (u, k, f) (v, l, w) h =
    let s = sizes m e n g c u v C k l in
    let o = ltb-false 0 (m * up e * down g + n * up g * down e) h in
    let x = none s (first_part (m * up e * down g) (n * up g * down e) o) in
    let y = none (exchanged s) (second-part (m * up e * down g) (n * up g * down e) o) in
    omega arith
  where
    first_part : (a b : ℕ) → a + b ≤ 0 → a ≤ 0
    first_part a b o = omega arith

    second-part : (a b : ℕ) → a + b ≤ 0 → b ≤ 0
    second-part a b o = omega arith
places-ordered (fin true m e) (fin true n g) c z p q C (u, k, f) (v, l, w) h =
    let r = order (exchanged (sizes m e n g c u v C k l)) (ltb-false (n * up g * down e) (m * up e * down g) h) in
    omega arith

-- ---- differences
-- x ⊖ l is n / c rounded once, and its sign is true only at 0
pub record Difference (x l : Float) (c n : ℕ) : Type 0 where
  pub sign : Bool
  pub is : x ⊖ l ≡ round binary64 sign n c
  pub zero-only : sign ≡ true → n ≡ 0

falling : (a b d : ℕ) → b ≤ a → cond (ltb a b) (round binary64 true (b - a) d) (round binary64 false (a - b) d) ≡ round binary64 false (a - b) d
falling a b d h = rw (le-ltb a b h)

rising : (a b d : ℕ) → a ≤ b → cond (ltb a b) (round binary64 false (b - a) d) (round binary64 (ltb b a) (a - b) d) ≡ round binary64 false (b - a) d
rising a b d h = go (ltb a b) refl
  where
    go : (t : Bool) → ltb a b ≡ t → cond t (round binary64 false (b - a) d) (round binary64 (ltb b a) (a - b) d) ≡ round binary64 false (b - a) d
    go true t = refl
    go false t = rw (le-ltb b a h, level-difference a b h (ltb-false a b t))
      where
        level-difference : (x y : ℕ) → x ≤ y → y ≤ x → x - y ≡ y - x
        level-difference x y i j = omega arith

positive-only : {n : ℕ} → false ≡ true → n ≡ 0
positive-only h = false-not-true h

pub difference : (x l : Float) (c z p q : ℕ) → 0 < c → Stands x c z p → Stands l c z q → q ≤ p → Difference x l c (p - q)
unfolding sub sum
difference nan l c z p q C i j h = absurd i
difference (inf s) l c z p q C i j h = absurd i
difference (fin s m e) nan c z p q C i j h = absurd j
difference (fin s m e) (inf t) c z p q C i j h = absurd j
difference (fin false m e) (fin false n g) c z p q C (u, k, f) (v, l, w) h =
    let s = sizes m e n g c u v C k l in
    record { sign = false; is = falling (m * up e * down g) (n * up g * down e) (down e * down g) (order-back s (omega arith)) ∙ difference-rounds s false (p - q) (omega arith); zero-only = positive-only }
difference (fin false m e) (fin true n g) c z p q C (u, k, f) (v, l, w) h =
    record { sign = false; is = sum-rounds (sizes m e n g c u v C k l) false (p - q) (omega arith); zero-only = positive-only }
difference (fin true m e) (fin false n g) c z p q C (u, k, f) (v, l, w) h =
    record { sign = true; is = sum-rounds (sizes m e n g c u v C k l) true (p - q) (omega arith); zero-only = λ y. omega arith }
difference (fin true m e) (fin true n g) c z p q C (u, k, f) (v, l, w) h =
    let s = sizes m e n g c u v C k l in
    record { sign = false; is = rising (m * up e * down g) (n * up g * down e) (down e * down g) (order-back (exchanged s) (omega arith)) ∙ difference-rounds (exchanged s) false (p - q) (omega arith); zero-only = positive-only }
