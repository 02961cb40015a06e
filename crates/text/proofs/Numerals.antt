-- The digits of a number: they do not turn on the count of divisions once there are enough, and a number below base ^ j has at most j. By induction on the divisions.
use Prim.Native.Nat.{ℕ, zero, suc, ◌-◌, ◌/◌, ◌%◌, ◌^◌, ◌≤◌, ◌<◌}
use mathlib.Core.Path.{◌≡◌, refl, ap, ◌∙◌}
use mathlib.Core.Logic.{◌⊎◌, inl, inr}
use mathlib.Core.Bool.{Bool, true, false, cond, ◌&&◌}
use mathlib.Core.List.{List, [], ◌∷◌, ◌++◌}
use native.Mathlib.Nat.{div-lt_iff_lt-mul, pow-suc, pow-zero, one-mul}
use native.Mathlib.Omega.{arith}
use lib.Dec.{ltb, leb}
use lib.ListN.{length, length-append}
use borrow.Author.Tests.{lt-ltb, le-leb, ltb-true, ltb-false, leb-true, leb-false}
use Rattle.text.specs.Numbers.{digit_byte, digits, hexadecimal_digits}

-- ---- one division: the digits before the last one, and all of them

abbrev pub rest : ℕ → ℕ → ℕ → ℕ → List ℕ
rest k base least n = digits k base (least - 1) (n / base)

abbrev pub digits_by : Bool → ℕ → ℕ → ℕ → ℕ → List ℕ
digits_by last k base least n = cond last (digit_byte n ∷ []) (rest k base least n ++ (digit_byte (n % base) ∷ []))

-- ---- whether a number is written with its last digit alone

abbrev pub is_last : ℕ → ℕ → ℕ → Bool
is_last base least n = ltb n base && leb least 1

pub last-small : (base least n : ℕ) → is_last base least n ≡ true → n < base
last-small base least n e = go (ltb n base) (leb least 1) refl e
  where
    go : (s t : Bool) → ltb n base ≡ s → s && t ≡ true → n < base
    go true t x z = ltb-true n base x
    go false t x z = let no : ◌≡◌ {A = ℕ} 0 1 = cc in absurd (omega arith)

pub last-asked : (base least n : ℕ) → is_last base least n ≡ true → least ≤ 1
last-asked base least n e = go (ltb n base) (leb least 1) refl e
  where
    go : (s t : Bool) → leb least 1 ≡ t → s && t ≡ true → least ≤ 1
    go s true y z = leb-true least 1 y
    go true false y z = let no : ◌≡◌ {A = ℕ} 0 1 = cc in absurd (omega arith)
    go false false y z = let no : ◌≡◌ {A = ℕ} 0 1 = cc in absurd (omega arith)

pub not_last : (base least n : ℕ) → is_last base least n ≡ false → (base ≤ n) ⊎ (1 < least)
not_last base least n e = go (ltb n base) (leb least 1) refl refl e
  where
    go : (s t : Bool) → ltb n base ≡ s → leb least 1 ≡ t → s && t ≡ false → (base ≤ n) ⊎ (1 < least)
    go true true x y z = let no : ◌≡◌ {A = ℕ} 0 1 = cc in absurd (omega arith)
    go true false x y z = inr (leb-false least 1 y)
    go false t x y z = inl (ltb-false n base x)

power-one : (base : ℕ) → base ^ 1 ≡ base
power-one base = pow-suc base 0 ∙ rw (pow-zero base) (one-mul base)

module _ (base : ℕ) (large : 1 < base) where
  pub one-digit : (n : ℕ) → n < base ^ 1 → n < base
  one-digit n h = omega (arith, power-one base)

  pub quotient-below : (k n : ℕ) → n < base ^ suc (suc k) → n / base < base ^ suc k
  quotient-below k n h = (div-lt_iff_lt-mul {k = base} {x = n} {y = base ^ suc k} (omega arith)).1 (rw pow-suc at h)

  pub enough : (k j least n : ℕ) → least ≤ suc k → n < base ^ suc k → least ≤ suc j → n < base ^ suc j → digits k base least n ≡ digits j base least n
  unfolding digits
  enough zero zero least n a h b i = refl
  enough zero (suc j) least n a h b i = rw (lt-ltb n base (one-digit n h), le-leb least 1 a)
  enough (suc k) zero least n a h b i = rw (lt-ltb n base (one-digit n i), le-leb least 1 b)
  enough (suc k) (suc j) least n a h b i =
      ap (λ (ds : List ℕ). cond (is_last base least n) (digit_byte n ∷ []) (ds ++ (digit_byte (n % base) ∷ [])))
      (enough k j (least - 1) (n / base) (omega arith) (quotient-below k n h) (omega arith) (quotient-below j n i))

  pub digits_last : (k least n : ℕ) → is_last base least n ≡ true → digits k base least n ≡ digit_byte n ∷ []
  unfolding digits
  digits_last zero least n e = refl
  digits_last (suc k) least n e = rw e

  -- a number below base ^ (j + 1) has at most j + 1 digits, unless more are asked for
  pub few-digits : (k j least n : ℕ) → least ≤ suc j → n < base ^ suc j → length (digits k base least n) ≤ suc j
  unfolding digits
  few-digits zero j least n h i = omega arith
  few-digits (suc k) zero least n h i = rw (lt-ltb n base (one-digit n i), le-leb least 1 h) (omega arith)
  few-digits (suc k) (suc j) least n h i = go (is_last base least n) (few-digits k j (least - 1) (n / base) (omega arith) (quotient-below j n i))
    where
      go : (t : Bool) → length (rest k base least n) ≤ suc j → length (digits_by t k base least n) ≤ suc (suc j)
      go true ih = omega arith
      go false ih = rw length-append (omega arith)

-- ---- hexadecimal

-- more divisions give no other digits
pub hexadecimal-more : (n : ℕ) → n < 2 ^ 64 → hexadecimal_digits 4 n ≡ digits 19 16 4 n
unfolding hexadecimal_digits
hexadecimal-more n h = enough 16 (omega arith) 15 19 4 n (omega arith) (omega arith) (omega arith) (omega arith)
