-- Numbers as document 01's listing has them: decimal, or 'in hexadecimal capitals of at least four digits'.
use Rattle.std.specs.Prelude.{ℕ, zero, suc, ◌+◌, ◌-◌, ◌*◌, ◌/◌, ◌%◌, ◌≤◌, ◌<◌, ◌≡◌, cond, ◌&&◌, List, [], ◌∷◌, ◌++◌, ltb, leb, length, get_or}

-- the character of a digit: 0 to 9, then A to F
abbrev pub digit_byte : ℕ → ℕ
digit_byte d = cond (ltb d 10) (0x30 + d) (0x37 + d)

-- the digits of n, the most significant first, at least `least` of them, by at most k divisions
unfoldable pub digits : ℕ → ℕ → ℕ → ℕ → List ℕ
digits zero base least n = digit_byte n ∷ []
digits (suc k) base least n =
    cond (ltb n base && leb least 1) (digit_byte n ∷ []) (digits k base (least - 1) (n / base) ++ (digit_byte (n % base) ∷ []))

-- of a number of 64 bits: 19 divisions by 10, or 15 by 16, are enough
unfoldable pub decimal : ℕ → List ℕ
decimal n = digits 19 10 0 n

unfoldable pub hexadecimal_digits : ℕ → ℕ → List ℕ
hexadecimal_digits least n = digits 15 16 least n

abbrev pub hexadecimal : ℕ → List ℕ
hexadecimal n = hexadecimal_digits 4 n

-- a number and the byte after it
unfoldable pub field : ℕ → ℕ → List ℕ
field n end = decimal n ++ (end ∷ [])

unfoldable pub hexadecimal_field : ℕ → ℕ → List ℕ
hexadecimal_field n end = hexadecimal n ++ (end ∷ [])

-- ---- the digits read back: what pins the two definitions

-- a character's digit
abbrev pub digit_of : ℕ → ℕ
digit_of byte = cond (ltb byte 0x3A) (byte - 0x30) (byte - 0x37)

-- the number that the digits say, after those that said m
abbrev pub value_from : ℕ → ℕ → List ℕ → ℕ
value_from base m [] = m
value_from base m (byte ∷ bytes) = value_from base (m * base + digit_of byte) bytes

-- each byte is the character of a digit below the base
abbrev pub AllDigits : ℕ → List ℕ → Type 0
AllDigits base [] = Unit {0}
AllDigits base (byte ∷ bytes) = ((d : ℕ) × (d < base) × (byte ≡ digit_byte d)) × AllDigits base bytes

-- the bytes write n in the base, with at least `least` digits; where there are more, the first is no zero
pub record Numeral (base least n : ℕ) (bytes : List ℕ) : Type 0 where
  pub value : value_from base 0 bytes ≡ n
  pub digit : AllDigits base bytes
  pub long : least ≤ length bytes
  pub short : least < length bytes → get_or bytes 0 0 ≡ 0x30 → ⊥
