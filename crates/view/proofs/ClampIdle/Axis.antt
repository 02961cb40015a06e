-- On an axis with bounds of the domain and a point between them, the distance from either bound is a part of the width: finite, in units not above it, and far from overflow.
use Rattle.std.proofs.Common.{◌≡◌, ℕ, ◌+◌, ◌-◌, ◌*◌, ◌^◌, ◌<◌, ◌≤◌, Bool, true, false, sym, refl, ap, ◌∙◌, zero-le, le_trans, le_of_eq, le_refl, mul-le-mul_right, mul_assoc, mul_comm, mul-pos, zero-mul, mul_right_comm, mul_left_comm, arith, lit<, lit≤, pow_pos, leb-true}
use lib.Ieee.{Float, nan, inf, fin, binary64, up, down, round, lt}
use lib.Ieee.Bits.{is_true}
use lib.Ieee.Order.{round_mono}
use lib.Ieee.Positive.{num, den, den_pos}
use Rattle.floats.specs.Arithmetic.{◌⊖◌}
use Rattle.floats.specs.Domain.{in_domain}
use Rattle.floats.specs.Rounding.{IsUnits, Finite}
use Rattle.floats.proofs.Cases.{false-not-true}
use Rattle.floats.proofs.Rounding.Correct.{round-correct}
use Rattle.floats.proofs.Monotone.{le-not-above}
use Rattle.view.proofs.ClampIdle.Bounded.{one, AtMost, at_most}
use Rattle.view.proofs.ClampIdle.Places.{Stands, value-stands, places-ordered, Difference, difference}

-- a float that is part of another, both in units; the part is a candidate of `Nearest`, and negative only at 0
pub record Part (part all : Float) : Type 0 where
  pub sign : Bool
  pub digits : ℕ
  pub exponent : ℕ
  pub all-sign : Bool
  pub width : ℕ
  pub few : digits < 2 ^ 53
  pub is-part : IsUnits part sign (digits * 2 ^ exponent)
  pub is_all : IsUnits all all-sign width
  pub low : digits * 2 ^ exponent ≤ width
  pub small : width ≤ 2 ^ 1116
  pub zero-only : sign ≡ true → digits * 2 ^ exponent ≡ 0

part_of : {x y : Float} {s t : Bool} {b : ℕ} → (d : AtMost x s b) → (w : AtMost y t (1 * 2 ^ 1115)) → d.digits * 2 ^ d.exponent ≤ w.digits * 2 ^ w.exponent → (s ≡ true → d.digits * 2 ^ d.exponent ≡ 0) → Part x y
part_of {x} {y} {s} {t} d w h z = record {
  sign = s;
  digits = d.digits;
  exponent = d.exponent;
  all-sign = t;
  width = w.digits * 2 ^ w.exponent;
  few = d.few;
  is-part = d.is;
  is_all = w.is;
  low = h;
  small = le_trans w.low (lit≤ tt);
  zero-only = z;
}

-- ---- a difference in units
units-stand : (x : Float) (n : ℕ) → IsUnits x false n → Stands x one 0 n
units-stand nan n h = absurd h
units-stand (inf s) n h = absurd h
units-stand (fin s m e) n h = value-stands (fin s m e) n one h

none : (n m : ℕ) → n ≤ m → m ≡ 0 → n ≡ 0
none n m h z = omega arith

module _ (c : ℕ) (C : 0 < c) where
  -- n / c rounded, at most 2 ^ 41
  rounded-small : (s : Bool) (n : ℕ) → n ≤ 2 ^ 41 * c → AtMost (round binary64 s n c) s (1 * 2 ^ 1115)
  rounded-small s n h =
      at_most (round binary64 s n c) s n c 1 1115 (round-correct s n c C) C (lit< tt) (lit< tt)
      (le_trans (mul-le-mul_right one h) (le_of_eq (mul_right_comm (2 ^ 41) c one)))

  rounded-zero : (s : Bool) (n : ℕ) → n ≡ 0 → AtMost (round binary64 s n c) s 0
  rounded-zero s n h = at_most (round binary64 s n c) s n c 0 0 (round-correct s n c C) C (lit< tt) (lit< tt) (rw h (le_of_eq (zero-mul one ∙ sym (zero-mul c))))

  rounded-part : (s t : Bool) (n m : ℕ) → (s ≡ true → n ≡ 0) → (t ≡ true → m ≡ 0) → n ≤ m → m ≤ 2 ^ 41 * c → Part (round binary64 s n c) (round binary64 t m c)
  rounded-part true t n m f g h l = let d = rounded-zero true n (f refl) in part_of d (rounded-small t m l) (le_trans d.low zero-le) (λ z. none _ 0 d.low refl)
  rounded-part false true n m f g h l = let d = rounded-zero false n (none n m h (g refl)) in part_of d (rounded-small true m l) (le_trans d.low zero-le) (λ z. false-not-true z)
  rounded-part false false n m f g h l =
      let d = rounded-small false n (le_trans h l) in
      let w = rounded-small false m l in
      part_of d w
      (places-ordered (round binary64 false m c) (round binary64 false n c) one 0 (w.digits * 2 ^ w.exponent) (d.digits * 2 ^ d.exponent) (pow_pos 1074)
      (units-stand (round binary64 false m c) (w.digits * 2 ^ w.exponent) w.is) (units-stand (round binary64 false n c) (d.digits * 2 ^ d.exponent) d.is)
      (le-not-above (round binary64 false n c) (round binary64 false m c) (is_true _ (round_mono binary64 n c m c C C (mul-le-mul_right c h)))))
      (λ z. false-not-true z)

  part : {x l y k : Float} {n m : ℕ} → Difference x l c n → Difference y k c m → n ≤ m → m ≤ 2 ^ 41 * c → Part (x ⊖ l) (y ⊖ k)
  part {n = n} {m = m} d w h l = rw (d.is, w.is) (rounded-part d.sign w.sign n m d.zero-only w.zero-only h l)

-- ---- the places of three floats
-- no further than `reach` from z
record Placed (x : Float) (c z reach : ℕ) : Type 0 where
  place : ℕ
  stands : Stands x c z place
  below : place ≤ z + reach
  above : z ≤ place + reach

placed : (x : Float) (c r z reach : ℕ) → Finite x → c ≡ den x * r → num x * r ≤ reach → reach ≤ z → Placed x c z reach
placed nan c r z reach f e h i = absurd f
placed (inf s) c r z reach f e h i = absurd f
placed (fin s m e) c r z reach f E h i = go s
  where
    over : (a d b k : ℕ) → k ≡ d * b → a * k ≡ a * b * d
    over a d b k j = ap (λ (x : ℕ). a * x) j ∙ simp (mul_assoc, mul_comm)

    up_from : (a b y : ℕ) → a ≤ b → (y + a ≤ y + b) × (y ≤ y + a + b)
    up_from a b y j = (omega arith, omega arith)

    down-from : (a b y : ℕ) → a ≤ b → b ≤ y → (y - a + a ≡ y) × (y - a ≤ y + b) × (y ≤ y - a + b)
    down-from a b y j k = (omega arith, omega arith, omega arith)

    go : (t : Bool) → Placed (fin t m e) c z reach
    go false =
        let b = up_from (m * up e * r) reach z h in
        record { place = z + m * up e * r; stands = (m * up e * r, over (m * up e) (down e) r c E, refl); below = b.0; above = b.1 }
    go true =
        let b = down-from (m * up e * r) reach z h i in
        record { place = z - m * up e * r; stands = (m * up e * r, over (m * up e) (down e) r c E, b.0); below = b.1; above = b.2 }

in-domain : (x : Float) → in_domain x ≡ true → Finite x × (num x ≤ 2 ^ 40 * den x)
unfolding in_domain
in-domain nan h = false-not-true h
in-domain (inf s) h = false-not-true h
in-domain (fin s m e) h = (tt, leb-true (m * up e) (2 ^ 40 * down e) h)

-- a bound of the domain reaches 2 ^ 40 at most
bound-placed : (x : Float) (c r z : ℕ) → in_domain x ≡ true → c ≡ den x * r → 2 ^ 40 * c ≤ z → Placed x c z (2 ^ 40 * c)
bound-placed x c r z h E i =
    let d = in-domain x h in
    placed x c r z (2 ^ 40 * c) d.0 E (le_trans (mul-le-mul_right r d.1) (le_of_eq (mul_assoc (2 ^ 40) (den x) r ∙ ap (λ (k : ℕ). 2 ^ 40 * k) (sym E)))) i

-- the distances from both bounds are parts of the width
pub record Distances (low v high : Float) : Type 0 where
  pub from_low : Part (v ⊖ low) (high ⊖ low)
  pub from-high : Part (high ⊖ v) (high ⊖ low)

pub distances : (low v high : Float) → in_domain low ≡ true → in_domain high ≡ true → Finite v → lt v low ≡ false → lt high v ≡ false → Distances low v high
distances low v high dl dh fv lv vh =
    let c = den low * (den v * den high) in
    let C : 0 < c = mul-pos (den_pos low) (mul-pos (den_pos v) (den_pos high)) in
    let reach = num v * (den low * den high) in
    let z = 2 ^ 40 * c + reach in
    let p = bound-placed low c (den v * den high) z dl refl (first_part (2 ^ 40 * c) reach) in
    let q = placed v c (den low * den high) z reach fv (mul_left_comm (den low) (den v) (den high)) (le_refl reach) (second-part (2 ^ 40 * c) reach) in
    let r = bound-placed high c (den low * den v) z dh (last (den low) (den v) (den high)) (first_part (2 ^ 40 * c) reach) in
    let pq = places-ordered v low c z q.place p.place C q.stands p.stands lv in
    let qr = places-ordered high v c z r.place q.place C r.stands q.stands vh in
    let w = difference high low c z r.place p.place C r.stands p.stands (le_trans pq qr) in
    let small = width p.place r.place z c p.above r.below in
    record {
      from_low = part c C (difference v low c z q.place p.place C q.stands p.stands pq) w (shorter-low p.place q.place r.place qr) small;
      from-high = part c C (difference high v c z r.place q.place C r.stands q.stands qr) w (shorter-high p.place q.place r.place pq) small;
    }
  where
    first_part : (a b : ℕ) → a ≤ a + b
    first_part a b = omega arith

    second-part : (a b : ℕ) → b ≤ a + b
    second-part a b = omega arith

    last : (a b d : ℕ) → a * (b * d) ≡ d * (a * b)
    last a b d = simp (mul_comm, mul_left_comm)

    width : (a b y k : ℕ) → y ≤ a + 2 ^ 40 * k → b ≤ y + 2 ^ 40 * k → b - a ≤ 2 ^ 41 * k
    width a b y k i j = omega arith

    shorter-low : (a b d : ℕ) → b ≤ d → b - a ≤ d - a
    shorter-low a b d i = omega arith

    shorter-high : (a b d : ℕ) → a ≤ b → d - b ≤ d - a
    shorter-high a b d i = omega arith
