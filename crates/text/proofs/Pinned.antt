-- Decimal and hexadecimal are what they say: read back the digits give the number, with no zero in front beyond the digits asked for. By induction on the divisions.
use Prim.Native.Nat.{ℕ, zero, suc, ◌+◌, ◌-◌, ◌*◌, ◌/◌, ◌%◌, ◌^◌, ◌≤◌, ◌<◌}
use mathlib.Core.Path.{◌≡◌, refl, sym, ◌∙◌}
use mathlib.Core.Logic.{⊎_elim}
use mathlib.Core.Bool.{Bool, true, false, cond}
use mathlib.Core.List.{List, [], ◌∷◌, ◌++◌}
use native.Mathlib.Nat.{div-add-mod', mod-lt, zero-mul, le-div_iff_mul-le}
use native.Mathlib.Omega.{arith}
use lib.Dec.{ltb, leb}
use lib.ListN.{length, length-append, get_or, get_or-append}
use borrow.Author.Tests.{lt-ltb, le-ltb, ltb-true, ltb-false, leb-true, leb-false}
use Rattle.text.specs.Numbers.{digit_byte, digits, decimal, hexadecimal_digits, hexadecimal, digit_of, value_from, AllDigits, Numeral}
use Rattle.text.proofs.Numerals.{rest, digits_by, is_last, last-small, last-asked, not_last, one-digit, quotient-below}

-- ---- a digit's character

digit-of : (d : ℕ) → d < 16 → digit_of (digit_byte d) ≡ d
digit-of d h = go (ltb d 10) refl
  where
    go : (t : Bool) → ltb d 10 ≡ t → digit_of (cond t (0x30 + d) (0x37 + d)) ≡ d
    go true e = rw (lt-ltb (0x30 + d) 0x3A (omega (arith, ltb-true d 10 e))) (omega arith)
    go false e = rw (le-ltb (0x37 + d) 0x3A (omega (arith, ltb-false d 10 e))) (omega arith)

digit-zero : (d : ℕ) → digit_byte d ≡ 0x30 → d ≡ 0
digit-zero d = go (ltb d 10)
  where
    go : (t : Bool) → cond t (0x30 + d) (0x37 + d) ≡ 0x30 → d ≡ 0
    go true e = omega arith
    go false e = absurd (omega arith)

-- one digit asked for at most, or more
by_count : {P : Type 0} (least : ℕ) → (least - 1 ≤ 1 → P) → (1 ≤ least - 1 → P) → P
by_count {P} least f g = go (leb (least - 1) 1) refl
  where
    go : (t : Bool) → leb (least - 1) 1 ≡ t → P
    go true e = f (leb-true (least - 1) 1 e)
    go false e = g (omega (arith, leb-false (least - 1) 1 e))

-- ---- lists of digits

value-append : (base m : ℕ) (a b : List ℕ) → value_from base m (a ++ b) ≡ value_from base (value_from base m a) b
value-append base m [] b = refl
value-append base m (x ∷ a) b = value-append base (m * base + digit_of x) a b

all_append : (base : ℕ) (a b : List ℕ) → AllDigits base a → AllDigits base b → AllDigits base (a ++ b)
all_append base [] b h i = i
all_append base (x ∷ a) b h i = (h.0, all_append base a b h.1 i)

-- the first byte of a list is that of the list with one more
before_last : (a : List ℕ) (x : ℕ) → 0 < length a → get_or (a ++ (x ∷ [])) 0 0 ≡ 0x30 → get_or a 0 0 ≡ 0x30
before_last a x h e = sym (get_or-append a (x ∷ []) 0 0 h) ∙ e

module _ (base : ℕ) (large : 1 < base) (small : base ≤ 16) where
  value-one : (n : ℕ) → n < base → value_from base 0 (digit_byte n ∷ []) ≡ n
  value-one n h = rw (zero-mul base, digit-of n (omega arith)) (omega arith)

  all_one : (n : ℕ) → n < base → AllDigits base (digit_byte n ∷ [])
  all_one n h = ((n, h, refl), tt)

  remainder : (n : ℕ) → n % base < base
  remainder n = mod-lt n (omega arith)

  digits_value : (k least n : ℕ) → least ≤ suc k → n < base ^ suc k → value_from base 0 (digits k base least n) ≡ n
  unfolding digits
  digits_value zero least n h i = value-one n (one-digit base large n i)
  digits_value (suc k) least n h i = go (is_last base least n) refl (digits_value k (least - 1) (n / base) (omega arith) (quotient-below base large k n i))
    where
      go : (t : Bool) → is_last base least n ≡ t → value_from base 0 (rest k base least n) ≡ n / base → value_from base 0 (digits_by t k base least n) ≡ n
      go true e ih = value-one n (last-small base least n e)
      go false e ih =
          value-append base 0 (rest k base least n) (digit_byte (n % base) ∷ [])
          ∙ rw (ih, digit-of (n % base) (omega (arith, remainder n))) (div-add-mod' n base)

  digits-all : (k least n : ℕ) → least ≤ suc k → n < base ^ suc k → AllDigits base (digits k base least n)
  unfolding digits
  digits-all zero least n h i = all_one n (one-digit base large n i)
  digits-all (suc k) least n h i = go (is_last base least n) refl (digits-all k (least - 1) (n / base) (omega arith) (quotient-below base large k n i))
    where
      go : (t : Bool) → is_last base least n ≡ t → AllDigits base (rest k base least n) → AllDigits base (digits_by t k base least n)
      go true e ih = all_one n (last-small base least n e)
      go false e ih = all_append base (rest k base least n) (digit_byte (n % base) ∷ []) ih (all_one (n % base) (remainder n))

  digits-some : (k least n : ℕ) → 0 < length (digits k base least n)
  unfolding digits
  digits-some zero least n = omega arith
  digits-some (suc k) least n = go (is_last base least n)
    where
      go : (t : Bool) → 0 < length (digits_by t k base least n)
      go true = omega arith
      go false = rw length-append (omega arith)

  digits_long : (k least n : ℕ) → least ≤ suc k → least ≤ length (digits k base least n)
  unfolding digits
  digits_long zero least n h = h
  digits_long (suc k) least n h = go (is_last base least n) refl (digits_long k (least - 1) (n / base) (omega arith))
    where
      go : (t : Bool) → is_last base least n ≡ t → least - 1 ≤ length (rest k base least n) → least ≤ length (digits_by t k base least n)
      go true e ih = last-asked base least n e
      go false e ih = rw length-append (omega arith)

  quotient : (n : ℕ) → base ≤ n → 0 < n / base
  quotient n h = (le-div_iff_mul-le {k = base} {x = 1} {y = n} (omega arith)).1 (omega arith)

  -- no digits asked for: only 0 begins with a zero
  digits-first : (k least n : ℕ) → least ≤ 1 → 0 < n → get_or (digits k base least n) 0 0 ≡ 0x30 → ⊥
  unfolding digits
  digits-first zero least n few pos z = omega (arith, digit-zero n z)
  digits-first (suc k) least n few pos z = go (is_last base least n) refl (digits-first k (least - 1) (n / base) (omega arith)) z
    where
      go : (t : Bool) → is_last base least n ≡ t → (0 < n / base → get_or (rest k base least n) 0 0 ≡ 0x30 → ⊥)
          → get_or (digits_by t k base least n) 0 0 ≡ 0x30 → ⊥
      go true e ih front = omega (arith, digit-zero n front)
      go false e ih front =
          let more : base ≤ n = ⊎_elim (λ x. x) (λ x. absurd (omega arith)) (not_last base least n e) in
          ih (quotient n more) (before_last (rest k base least n) (digit_byte (n % base)) (digits-some k (least - 1) (n / base)) front)

  digits-short : (k least n : ℕ) → 1 ≤ least → least < length (digits k base least n) → get_or (digits k base least n) 0 0 ≡ 0x30 → ⊥
  unfolding digits
  digits-short zero least n asked more z = omega arith
  digits-short (suc k) least n asked more z =
      go (is_last base least n) refl (digits-short k (least - 1) (n / base)) (digits-first k (least - 1) (n / base)) more z
    where
      go : (t : Bool) → is_last base least n ≡ t
          → (1 ≤ least - 1 → least - 1 < length (rest k base least n) → get_or (rest k base least n) 0 0 ≡ 0x30 → ⊥)
          → (least - 1 ≤ 1 → 0 < n / base → get_or (rest k base least n) 0 0 ≡ 0x30 → ⊥)
          → least < length (digits_by t k base least n)
          → get_or (digits_by t k base least n) 0 0 ≡ 0x30 → ⊥
      go true e ih first over front = omega arith
      go false e ih first over front =
          let size = length-append (rest k base least n) (digit_byte (n % base) ∷ []) in
          let z' = before_last (rest k base least n) (digit_byte (n % base)) (digits-some k (least - 1) (n / base)) front in
          ⊎_elim
          (λ (x : base ≤ n). by_count least (λ l. first l (quotient n x) z') (λ l. ih l (omega arith) z'))
          (λ (x : 1 < least). ih (omega arith) (omega arith) z')
          (not_last base least n e)

-- ---- the two laws

module _ (n : ℕ) (fits : n < 2 ^ 64) where
  decimal-front : 1 < length (decimal n) → get_or (decimal n) 0 0 ≡ 0x30 → ⊥
  unfolding decimal digits
  decimal-front more z = go (ltb 0 n) refl
    where
      go : (t : Bool) → ltb 0 n ≡ t → ⊥
      go true e = digits-first 10 (omega arith) (omega arith) 19 0 n (omega arith) (ltb-true 0 n e) z
      go false e =
          let none : n ≡ 0 = omega (arith, ltb-false 0 n e) in
          omega (arith, rw none at more)

  pub decimal-numeral : Numeral 10 1 n (decimal n)
  unfolding decimal
  decimal-numeral = record {
    value = digits_value 10 (omega arith) (omega arith) 19 0 n (omega arith) (omega arith);
    digit = digits-all 10 (omega arith) (omega arith) 19 0 n (omega arith) (omega arith);
    long = digits-some 10 (omega arith) (omega arith) 19 0 n;
    short = decimal-front;
  }

  pub hexadecimal-numeral : Numeral 16 4 n (hexadecimal n)
  unfolding hexadecimal_digits
  hexadecimal-numeral = record {
    value = digits_value 16 (omega arith) (omega arith) 15 4 n (omega arith) fits;
    digit = digits-all 16 (omega arith) (omega arith) 15 4 n (omega arith) fits;
    long = digits_long 16 (omega arith) (omega arith) 15 4 n (omega arith);
    short = digits-short 16 (omega arith) (omega arith) 15 4 n (omega arith);
  }
