-- A float's whole part by one shift of its digits, which stand at the top of a word under a leading one: from 1 on and below 2 ^ 53 its exponent field is 1023 to 1075, so the shift goes down by 11 to 63.
-- From a quarter to 1 the field is 1021 or 1022, and the same shift leaves 0: so neither end need be tested where the whole part is known to be small.
-- Below 2 ^ w a float is below 2 ^ (w + 1074) in units of 2 ^ -1074. `to_bits` drops all but 53 of those digits, and the leading one of the rest adds one to the field.
use Rattle.std.proofs.Common.{◌≡◌, ℕ, zero, suc, ◌+◌, ◌-◌, ◌*◌, ◌/◌, ◌%◌, ◌^◌, ◌<◌, ◌≤◌, min, Bool, true, false, not, T, pos, sym, refl, ap, ◌∙◌, subst, le_trans, le_of_eq, lt_of_lt_of_le, lt_of_le_of_lt, lt_irrefl, mul-le-mul_right, mod-lt, div-lt_iff_lt-mul, lt_of_mul-lt-mul_right, mul-lt-mul_of_pos_right, one-mul, lt_of_not-le, le-div_iff_mul-le, mul-one, mul_right_comm, arith, lit≤, ltb→lt, lt→ltb, pow_pos, pow_mono, pow-add, shr-shr, ltb-false, leb-false}
use native.Mathlib.Nat.{div-eq_of_lt}
use lib.Pow.{shl-shr}
use lib.Bits.{bit_and, bit_or, and_mask, or_block, or_shifted_r, or_zero_r}
use lib.Ieee.{Float, nan, inf, fin, binary64, up, down, size, fits, is_nan, to_bits, of_bits, le, lt, of_int, to_unsigned}
use lib.Ieee.Digits.{size-le, size-lt}
use lib.Ieee.Fits.{down_pos, kept-lt}
use lib.Ieee.Exact.{HasValue}
use lib.Ieee.Positive.{above, above_of_le, first_pos, le→cross}
use Rattle.std.proofs.num.Truncating.{at_least_one, under_one, below_one, cut_down}
use Rattle.floats.specs.Arithmetic.{◌⊕◌}
use Rattle.floats.specs.Truncation.{as_unsigned}
use Rattle.floats.specs.Polyfills.{round_of, 0·25, 0·5, 1·0}
use Rattle.floats.proofs.Cases.{true-not-false}
use Rattle.floats.proofs.InDomain.{at_most}
use Rattle.floats.proofs.Truncation.{unsigned_is}
use Rattle.floats.proofs.HalfAdded.{half-low, half-below, half-from, whole-value}

abbrev one : Float
one = fin false 1 (pos 0)

abbrev two_to : ℕ → Float
two_to w = fin false 1 (pos w)

-- below the whole number n, so below a power from n on
below_power : (x y : Float) (n w : ℕ) → T (above x) → HasValue y false n 1 → n ≤ 2 ^ w → T (lt x y) → T (lt x (two_to w))
unfolding lt
below_power nan y n w a v l h = absurd a
below_power (inf true) y n w a v l h = absurd a
below_power (inf false) nan n w a v l h = absurd v
below_power (inf false) (inf t) n w a v l h = absurd v
below_power (inf false) (fin t b g) n w a v l h = absurd h
below_power (fin true m e) y n w a v l h = absurd a
below_power (fin false m e) nan n w a v l h = absurd v
below_power (fin false m e) (inf t) n w a v l h = absurd v
below_power (fin false m e) (fin true b g) n w a v l h = absurd h
below_power (fin false m e) (fin false b g) n w a v l h =
    lt→ltb (m * up e * 1) (1 * 2 ^ w * down e)
    (under (m * up e) (down e) (b * up g) (down g) (2 ^ w) v.1 l (ltb→lt (m * up e * down g) (b * up g * down e) h))
  where
    under : (x d y g p : ℕ) → y * 1 ≡ n * g → n ≤ p → x * g < y * d → x * 1 < 1 * p * d
    under x d y g p q l h =
        rw (mul-one, one-mul)
        (lt_of_lt_of_le (lt_of_mul-lt-mul_right g (lt_of_lt_of_le h (le_of_eq (ap (λ (k : ℕ). k * d) (sym (mul-one y) ∙ q) ∙ mul_right_comm n g d)))) (mul-le-mul_right d l))

-- the bits above the digits: the exponent field, as the sign is clear
field-at-most : (w : ℕ) (x : Float) → T (above x) → T (lt x (two_to w)) → to_bits binary64 x / 2 ^ 52 ≤ w + 1022
unfolding lt to_bits
field-at-most w nan a h = absurd a
field-at-most w (inf true) a h = absurd a
field-at-most w (inf false) a h = absurd h
field-at-most w (fin true m e) a h = absurd a
field-at-most w (fin false m e) a h = field _ _ (dropped _ (size-le units (w + 1074) (rw pow-add few))) (kept-lt 53 units)
  where
    units : ℕ
    units = m * up e * 2 ^ 1074 / down e

    few : units < 2 ^ w * 2 ^ 1074
    few =
        (div-lt_iff_lt-mul (down_pos e)).1
        (lt_of_lt_of_le (mul-lt-mul_of_pos_right (plain (m * up e) (2 ^ w) (down e) (ltb→lt (m * up e * 1) (1 * 2 ^ w * down e) h)) (pow_pos 1074)) (le_of_eq (mul_right_comm (2 ^ w) (down e) (2 ^ 1074))))
      where
        plain : (v p d : ℕ) → v * 1 < 1 * p * d → v < p * d
        plain v p d l = rw (mul-one, one-mul) at l

    dropped : (s : ℕ) → s ≤ w + 1074 → s - 53 ≤ w + 1021
    dropped s l = omega arith

    field : (k q : ℕ) → k ≤ w + 1021 → q < 2 ^ 53 → (0 + k * 2 ^ 52 + q) / 2 ^ 52 ≤ w + 1022
    field k q l r = omega arith

-- from 1 on the whole part is not 0
some-whole : (x : Float) → T (above x) → T (le one x) → 1 ≤ to_unsigned 64 x
unfolding to_unsigned
some-whole nan a h = absurd a
some-whole (inf true) a h = absurd a
some-whole (inf false) a h = lit≤ tt
some-whole (fin true m e) a h = absurd a
some-whole (fin false m e) a h = capped _ ((le-div_iff_mul-le (down_pos e)).1 (plain (down e) (m * up e) (le→cross one (fin false m e) tt a h)))
  where
    plain : (d n : ℕ) → 1 * d ≤ n * 1 → 1 * d ≤ n
    plain d n l = omega arith

    capped : (n : ℕ) → 1 ≤ n → 1 ≤ min n (2 ^ 64 - 1)
    capped n l = omega arith

-- ---- a pattern's digits under the leading one: 53 of them, moved to the top of a word
abbrev led : ℕ → ℕ
led b = 2 ^ 52 + b % 2 ^ 52

led-below : (b : ℕ) → led b < 2 ^ 53
led-below b = omega arith

masked : (b : ℕ) → bit_or (bit_and b (2 ^ 52 - 1)) (2 ^ 52) ≡ led b
masked b = rw (and_mask b 52) (or_shifted_r 1 52 (b % 2 ^ 52) (mod-lt b (pow_pos 52)))

-- the bit that the leading one is put over is the field's lowest
moved : (b : ℕ) → bit_or (b * 2 ^ 11 % 2 ^ 64) (2 ^ 63) ≡ led b * 2 ^ 11
moved b =
    ap (λ (n : ℕ). bit_or n (2 ^ 63)) (parts b)
    ∙ or_block 63 (b / 2 ^ 52 % 2) 1 (b % 2 ^ 52 * 2 ^ 11) 0 (omega arith) (pow_pos 63)
    ∙ rw (or-one (b / 2 ^ 52 % 2) (omega arith), or_zero_r (b % 2 ^ 52 * 2 ^ 11)) (omega arith)
  where
    parts : (b : ℕ) → b * 2 ^ 11 % 2 ^ 64 ≡ b / 2 ^ 52 % 2 * 2 ^ 63 + b % 2 ^ 52 * 2 ^ 11
    parts b = omega arith

    or-one : (h : ℕ) → h < 2 → bit_or h 1 ≡ 1
    or-one zero l = refl
    or-one (suc zero) l = refl
    or-one (suc (suc h)) l = absurd (omega arith)

-- ---- what the function's proof cites
module _ (x : Float) (F : fits binary64 x ≡ true) (some : T (le one x)) (few : T (lt x (two_to 53))) where
  abbrev bits : ℕ
  bits = to_bits binary64 x

  abbrev field : ℕ
  field = bits / 2 ^ 52

  over : T (above x)
  over = above_of_le one x tt some

  below-2^64 : T (lt x (two_to 64))
  below-2^64 = below_power x (two_to 53) (2 ^ 53) 64 over (refl, refl) (lit≤ tt) few

  field-at-most-1075 : field ≤ 1075
  field-at-most-1075 = field-at-most 53 x over few

  cut : led bits / 2 ^ (1075 - field) ≡ to_unsigned 64 x
  cut = rw (masked bits) at (cut_down x (subst T (sym F) tt) some below-2^64 field-at-most-1075)

  -- a lower field would shift all digits out
  field-at-least-1023 : 1023 ≤ field
  field-at-least-1023 = lt_of_not-le (λ (l : field ≤ 1022). none (sym cut ∙ div-eq_of_lt (lt_of_lt_of_le (led-below bits) (pow_mono (far field l)))) (some-whole x over some))
    where
      far : (e : ℕ) → e ≤ 1022 → 53 ≤ 1075 - e
      far e l = omega arith

      none : to_unsigned 64 x ≡ 0 → 1 ≤ to_unsigned 64 x → ⊥
      none e l = omega arith

  pub field-at-most-1086 : field ≤ 1086
  field-at-most-1086 = omega (arith, field-at-most-1075)

  pub shift-below-64 : 1086 - field < 64
  shift-below-64 = omega (arith, field-at-least-1023)

  pub shifted-digits : bit_or (bits * 2 ^ 11 % 2 ^ 64) (2 ^ 63) / 2 ^ (1086 - field) ≡ to_unsigned 64 x
  shifted-digits =
      ap (λ (n : ℕ). n / 2 ^ (1086 - field)) (moved bits)
      ∙ ap (λ (n : ℕ). led bits * 2 ^ 11 / 2 ^ n) (apart field field-at-most-1075)
      ∙ sym (shr-shr (led bits * 2 ^ 11) 11 (1075 - field))
      ∙ ap (λ (n : ℕ). n / 2 ^ (1075 - field)) (shl-shr (led bits) 11)
      ∙ cut
    where
      apart : (e : ℕ) → e ≤ 1075 → 1086 - e ≡ 11 + (1075 - e)
      apart e l = omega arith

-- what the function asks, from the tests of one that calls it
pub below_two_to_53 : (x : Float) (n : ℕ) → n < 2 ^ 16 → le 1·0 x ≡ true → lt x (of_int binary64 (pos n)) ≡ true → T (lt x (two_to 53))
below_two_to_53 x n N some h = below_power x (of_int binary64 (pos n)) n 53 (above_of_le one x tt (at_least_one x some)) (whole-value n N) (small n N) (subst T (sym h) tt)
  where
    small : (k : ℕ) → k < 2 ^ 16 → k ≤ 2 ^ 53
    small k l = omega arith

-- ---- without a test of either end
-- at least a quarter and below 1
abbrev Low : Float → Type 0
Low nan = ⊥
Low (inf s) = ⊥
Low (fin true m e) = ⊥
Low (fin false m e) = (down e ≤ m * up e * 4) × (m * up e < down e)

low : (x : Float) → T (not (is_nan x)) → lt x 0·25 ≡ false → le 1·0 x ≡ false → Low x
unfolding is_nan lt le of_bits
low nan n h i = absurd n
low (inf true) n h i = true-not-false h
low (inf false) n h i = true-not-false i
low (fin true m e) n h i = absurd (none (m * up e * 4) (down e) (down_pos e) (ltb-false 0 (m * up e * 4 + 1 * down e) h))
  where
    none : (v d : ℕ) → 0 < d → v + 1 * d ≤ 0 → ⊥
    none v d D l = omega arith
low (fin false m e) n h i =
    (from (m * up e) (down e) (ltb-false (m * up e * 4) (1 * down e) h), under (m * up e) (down e) (leb-false (1 * down e) (m * up e * 1) (sym (at_most (1 * down e) (m * up e * 1)) ∙ i)))
  where
    from : (v d : ℕ) → 1 * d ≤ v * 4 → d ≤ v * 4
    from v d l = omega arith

    under : (v d : ℕ) → v * 1 < 1 * d → v < d
    under v d l = omega arith

-- that the field is at least 1012 is enough: the shift is below 64
low_field : (x : Float) → Low x → (1012 ≤ to_bits binary64 x / 2 ^ 52) × (to_bits binary64 x / 2 ^ 52 ≤ 1022)
unfolding lt to_bits
low_field nan h = absurd h
low_field (inf s) h = absurd h
low_field (fin true m e) h = absurd h
low_field (fin false m e) h = (
  field _ _ (kept _ (lt_of_not-le (λ (l : size units ≤ 1064). lt_irrefl units (lt_of_lt_of_le (size-lt units) (le_trans (pow_mono l) (le_trans (lit≤ tt) many)))))),
  field-at-most 0 (fin false m e) (lt→ltb 0 m (first_pos m (up e) (some (m * up e) (down e) (down_pos e) h.0))) (lt→ltb (m * up e * 1) (1 * 2 ^ 0 * down e) (under (m * up e) (down e) h.1)),
)
  where
    units : ℕ
    units = m * up e * 2 ^ 1074 / down e

    quarters : (v d u : ℕ) → d ≤ v * 4 → u * d ≤ v * (u * 4)
    quarters v d u l = omega (arith, mul-le-mul_right u l)

    many : 2 ^ 1072 ≤ units
    many = (le-div_iff_mul-le (down_pos e)).1 (quarters (m * up e) (down e) (2 ^ 1072) h.0)

    kept : (s : ℕ) → 1064 < s → 1012 ≤ s - 53
    kept s l = omega arith

    field : (k q : ℕ) → 1012 ≤ k → 1012 ≤ (0 + k * 2 ^ 52 + q) / 2 ^ 52
    field k q l = omega arith

    some : (v d : ℕ) → 0 < d → d ≤ v * 4 → 0 < v
    some v d D l = omega arith

    under : (v d : ℕ) → v < d → v * 1 < 1 * 1 * d
    under v d l = omega arith

-- a small whole part is that of a float below 2 ^ 53
small-below : (x : Float) → T (above x) → to_unsigned 64 x < 65536 → T (lt x (two_to 53))
unfolding lt to_unsigned
small-below nan a h = absurd a
small-below (inf true) a h = absurd a
small-below (inf false) a h = absurd (lt_irrefl 65536 (lt_of_le_of_lt (lit≤ tt) h))
small-below (fin true m e) a h = absurd a
small-below (fin false m e) a h = lt→ltb (m * up e * 1) (1 * 2 ^ 53 * down e) (wider (m * up e) (down e) ((div-lt_iff_lt-mul (down_pos e)).0 (uncapped _ h)))
  where
    uncapped : (n : ℕ) → min n (2 ^ 64 - 1) < 65536 → n < 65536
    uncapped n l = omega arith

    wider : (v d : ℕ) → v < 65536 * d → v * 1 < 9007199254740992 * d
    wider v d l = omega arith

-- the shift is a difference modulo 2 ^ 64, and then modulo 64
module _ (x : Float) (s : ℕ) (S : s < 2 ^ 64) (w : (s + to_bits binary64 x / 2 ^ 52) % 2 ^ 64 ≡ 1075) where
  abbrev masked-digits : ℕ
  masked-digits = bit_or (bit_and (to_bits binary64 x) (2 ^ 52 - 1)) (2 ^ 52) / 2 ^ (s % 64)

  digits-shifted : 1012 ≤ to_bits binary64 x / 2 ^ 52 → to_bits binary64 x / 2 ^ 52 ≤ 1075 → masked-digits ≡ led (to_bits binary64 x) / 2 ^ (1075 - to_bits binary64 x / 2 ^ 52)
  digits-shifted l m =
      ap (λ (n : ℕ). n / 2 ^ (s % 64)) (masked (to_bits binary64 x))
      ∙ ap (λ (n : ℕ). led (to_bits binary64 x) / 2 ^ n) (same (to_bits binary64 x / 2 ^ 52) w l m)
    where
      same : (e : ℕ) → (s + e) % 2 ^ 64 ≡ 1075 → 1012 ≤ e → e ≤ 1075 → s % 64 ≡ 1075 - e
      same e v l m = omega arith

  pub shifted-small : fits binary64 x ≡ true → T (not (is_nan x)) → lt x 0·25 ≡ false → to_unsigned 64 x < 65536 → masked-digits % 65536 ≡ to_unsigned 64 x
  shifted-small F n h few = go (le 1·0 x) refl
    where
      none : (a k : ℕ) → a ≡ 0 → 0 ≡ k → a % 65536 ≡ k
      none a k i j = omega arith

      same : (a k : ℕ) → a ≡ k → k < 65536 → a % 65536 ≡ k
      same a k i l = omega arith

      far : (e : ℕ) → e ≤ 1022 → 53 ≤ 1075 - e
      far e l = omega arith

      go : (t : Bool) → le 1·0 x ≡ t → masked-digits % 65536 ≡ to_unsigned 64 x
      go false i =
          let f = low_field x (low x n h i) in
          none _ _ (digits-shifted f.0 (le_trans f.1 (lit≤ tt)) ∙ div-eq_of_lt (lt_of_lt_of_le (led-below (to_bits binary64 x)) (pow_mono (far _ f.1)))) (below_one 64 x (under_one x i))
      go true i =
          let o = at_least_one x i in
          let b = small-below x (above_of_le one x tt o) few in
          same _ _ (digits-shifted (le_trans (lit≤ tt) (field-at-least-1023 x F o b)) (field-at-most-1075 x F o b) ∙ cut x F o b) few

-- `round` and then `as u64` is the whole part of the sum with a half, where it is small
pub rounded-sum : (v : Float) (n : ℕ) → n < 2 ^ 16 → as_unsigned 64 (round_of v) < n → to_unsigned 64 (v ⊕ 0·5) ≡ as_unsigned 64 (round_of v)
rounded-sum v n N few = go (le 1·0 (v ⊕ 0·5)) (lt (v ⊕ 0·5) (of_int binary64 (pos n))) refl refl
  where
    past : (k : ℕ) → k < n → n ≤ k → ⊥
    past k l m = omega arith

    go : (a b : Bool) → le 1·0 (v ⊕ 0·5) ≡ a → lt (v ⊕ 0·5) (of_int binary64 (pos n)) ≡ b → to_unsigned 64 (v ⊕ 0·5) ≡ as_unsigned 64 (round_of v)
    go false b h i = sym (below_one 64 (v ⊕ 0·5) (under_one (v ⊕ 0·5) h)) ∙ sym (half-low v h)
    go true false h i = absurd (past _ few (half-from v n N h i))
    go true true h i = unsigned_is 64 (v ⊕ 0·5) ∙ sym (half-below v n N h i).0

-- for `whole_part`: its shift is by 11 to 63, and gives the whole part
pub ruleset whole_parts = (field-at-most-1086, shift-below-64, shifted-digits)
