-- IEEE 754 as document 01 writes it, 'Float numbers': 'Each operation rounds once, to the nearest float and on a tie to the even one ...; a finite float is a whole number
-- times a power of two, so nearness is compared in whole numbers, a quotient's by multiplying crosswise.' Nothing here speaks of how the kit rounds.
-- A unit is 2 ^ -1074, the smallest float above 0. A finite float of binary64 is p * 2 ^ j units in size, with p below 2 ^ 53.
use Rattle.std.specs.Prelude.{◌≡◌, ℕ, suc, ◌+◌, ◌-◌, ◌*◌, ◌%◌, ◌^◌, ◌<◌, ◌≤◌, Bool, true, false, cond, not, T, ◌⊎◌, ℤ, pos, negsuc, ◌==◌, nat_lt, Float}
use Rattle.std.specs.Float.{nan, inf, fin, binary64}
use Rattle.std.specs.Float.Ieee.{up, down, unlike, fits, of_int}
use Rattle.floats.specs.Arithmetic.{◌⊕◌, ◌⊖◌, ◌⊗◌, ◌⊘◌}

-- ---- the nearest float

-- |x - y|
abbrev pub dist : ℕ → ℕ → ℕ
dist x y = x - y + (y - x)

-- Of all p * 2 ^ j units, those of q * 2 ^ k are nearest to n / den units; a distance over den is compared by its numerator.
-- q is the float's significand: it has 53 binary digits, or k is 0, as in the subnormal floats. On a tie q is even.
pub record Nearest (n den q k : ℕ) : Type 0 where
  pub digits : q < 2 ^ 53
  pub leading : (k ≡ 0) ⊎ (2 ^ 52 ≤ q)
  pub near : (p j : ℕ) → p < 2 ^ 53 → dist (q * 2 ^ k * den) n ≤ dist (p * 2 ^ j * den) n
  pub even : (p j : ℕ) → p < 2 ^ 53 → dist (q * 2 ^ k * den) n ≡ dist (p * 2 ^ j * den) n → (p * 2 ^ j ≡ q * 2 ^ k) ⊎ (q % 2 ≡ 0)

-- r is finite, has the sign s, and is n units in size
abbrev pub IsUnits : Float → Bool → ℕ → Type 0
IsUnits nan s n = ⊥
IsUnits (inf t) s n = ⊥
IsUnits (fin t m e) s n = (t ≡ s) × (m * up e * 2 ^ 1074 ≡ n * down e)

-- in units, midway between the largest float, (2 ^ 53 - 1) * 2 ^ 2045, and the next power of two: from here on a result overflows
abbrev pub midway : ℕ
midway = (2 ^ 54 - 1) * 2 ^ 2044

-- r is num / den with the sign s, rounded once
pub record Rounded (r : Float) (s : Bool) (num den : ℕ) : Type 0 where
  pub over : midway * den ≤ num * 2 ^ 1074 → r ≡ inf s
  pub within : num * 2 ^ 1074 < midway * den → (q : ℕ) × (k : ℕ) × IsUnits r s (q * 2 ^ k) × Nearest (num * 2 ^ 1074) den q k

-- ---- the operations before they round

-- a result before it is rounded: none, an infinity with its sign, or num / den with its sign
pub data Exact : Type 0 where
  invalid : Exact
  infinite : Bool → Exact
  fraction : Bool → ℕ → ℕ → Exact

abbrev pub Rounds : Float → Exact → Type 0
Rounds r invalid = r ≡ nan
Rounds r (infinite s) = r ≡ inf s
Rounds r (fraction s num den) = Rounded r s num den

-- (±a ± b) / den; a sum of 0 is negative only where both parts are
abbrev pub signed_sum : Bool → ℕ → Bool → ℕ → ℕ → Exact
signed_sum true a true b den = fraction true (a + b) den
signed_sum false a false b den = fraction false (a + b) den
signed_sum true a false b den = cond (nat_lt b a) (fraction true (a - b) den) (fraction false (b - a) den)
signed_sum false a true b den = cond (nat_lt a b) (fraction true (b - a) den) (fraction false (a - b) den)

-- infinities of unlike sign have no sum
abbrev pub infinite_sum : Bool → Bool → Exact
infinite_sum true true = infinite true
infinite_sum false false = infinite false
infinite_sum true false = invalid
infinite_sum false true = invalid

abbrev pub exact_sum : Float → Float → Exact
exact_sum nan y = invalid
exact_sum (inf s) nan = invalid
exact_sum (inf s) (inf t) = infinite_sum s t
exact_sum (inf s) (fin t n d) = infinite s
exact_sum (fin s m e) nan = invalid
exact_sum (fin s m e) (inf t) = infinite t
exact_sum (fin s m e) (fin t n d) = signed_sum s (m * up e * down d) t (n * up d * down e) (down e * down d)

abbrev pub negated : Float → Float
negated nan = nan
negated (inf s) = inf (not s)
negated (fin s m e) = fin (not s) m e

abbrev pub exact_difference : Float → Float → Exact
exact_difference x y = exact_sum x (negated y)

-- 0 times an infinity has no product
abbrev pub exact_product : Float → Float → Exact
exact_product nan y = invalid
exact_product (inf s) nan = invalid
exact_product (inf s) (inf t) = infinite (unlike s t)
exact_product (inf s) (fin t n d) = cond (n == 0) invalid (infinite (unlike s t))
exact_product (fin s m e) nan = invalid
exact_product (fin s m e) (inf t) = cond (m == 0) invalid (infinite (unlike s t))
exact_product (fin s m e) (fin t n d) = fraction (unlike s t) (m * up e * (n * up d)) (down e * down d)

-- 0 over 0 and an infinity over an infinity have no quotient; anything else over 0 is infinite
abbrev pub exact_quotient : Float → Float → Exact
exact_quotient nan y = invalid
exact_quotient (inf s) nan = invalid
exact_quotient (inf s) (inf t) = invalid
exact_quotient (inf s) (fin t n d) = infinite (unlike s t)
exact_quotient (fin s m e) nan = invalid
exact_quotient (fin s m e) (inf t) = fraction (unlike s t) 0 1
exact_quotient (fin s m e) (fin t n d) =
    cond (n == 0) (cond (m == 0) invalid (infinite (unlike s t))) (fraction (unlike s t) (m * up e * down d) (n * up d * down e))

abbrev pub exact_integer : ℤ → Exact
exact_integer (pos n) = fraction false n 1
exact_integer (negsuc n) = fraction true (suc n) 1

-- ---- the statement

-- finite, with its size in units as a candidate of `Nearest`
abbrev pub Candidate : Float → Type 0
Candidate nan = ⊥
Candidate (inf s) = ⊥
Candidate (fin s m e) = (p : ℕ) × (j : ℕ) × (p < 2 ^ 53) × IsUnits (fin s m e) s (p * 2 ^ j)

abbrev pub Finite : Float → Type 0
Finite nan = ⊥
Finite (inf s) = ⊥
Finite (fin s m e) = Unit

-- each result is a float of binary64, whatever the operands
pub record Fitting : Type 0 where
  pub sum : (x y : Float) → T (fits binary64 (x ⊕ y))
  pub difference : (x y : Float) → T (fits binary64 (x ⊖ y))
  pub product : (x y : Float) → T (fits binary64 (x ⊗ y))
  pub quotient : (x y : Float) → T (fits binary64 (x ⊘ y))
  pub integer : (z : ℤ) → T (fits binary64 (of_int binary64 z))

-- Each operation that the code uses is its exact result rounded once, and a float of binary64; every finite float of binary64 competes for nearness; and no two floats of binary64 are both the
-- rounded result. So a float of binary64 that is the exact result rounded once is what the operation gives.
pub record RoundsOnce : Type 0 where
  pub sum : (x y : Float) → Rounds (x ⊕ y) (exact_sum x y)
  pub difference : (x y : Float) → Rounds (x ⊖ y) (exact_difference x y)
  pub product : (x y : Float) → Rounds (x ⊗ y) (exact_product x y)
  pub quotient : (x y : Float) → Rounds (x ⊘ y) (exact_quotient x y)
  pub integer : (z : ℤ) → Rounds (of_int binary64 z) (exact_integer z)
  pub fitting : Fitting
  pub candidate : (x : Float) → T (fits binary64 x) → Finite x → Candidate x
  pub determined : (v : Exact) (x y : Float) → T (fits binary64 x) → T (fits binary64 y) → Rounds x v → Rounds y v → x ≡ y
