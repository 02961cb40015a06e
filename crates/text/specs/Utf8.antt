-- A symbol in UTF-8: RFC 3629, section 3.
use Rattle.std.specs.Prelude.{ℕ, ◌+◌, ◌-◌, ◌*◌, ◌/◌, ◌%◌, ◌≤◌, ◌≡◌, Bool, cond, not, ◌&&◌, ◌||◌, List, [], ◌∷◌, ltb, leb}
use Rattle.std.proofs.Math.Option.{Option, none, some}

-- D7FF and E000 are scalar values, the numbers between are not
abbrev pub is_scalar : ℕ → Bool
is_scalar c = ltb c 0xD800 || (leb 0xE000 c && ltb c 0x110000)

-- the control characters of ASCII and of Latin-1
abbrev pub is_control : ℕ → Bool
is_control c = ltb c 0x20 || (leb 0x7F c && leb c 0x9F)

-- what is shown for a word: U+FFFD, the replacement character, for what is no scalar value or is a control character
unfoldable pub shown_symbol : ℕ → ℕ
shown_symbol word = cond (is_scalar word && not (is_control word)) word 0xFFFD

-- a byte 10xxxxxx, with the last six bits
abbrev pub continuation : ℕ → ℕ
continuation bits = 0x80 + bits % 64

-- 'Char. number range' and 'UTF-8 octet sequence'
unfoldable pub utf8 : ℕ → List ℕ
utf8 s =
    cond (ltb s 0x80) (s ∷ [])
    (cond (ltb s 0x800) ((0xC0 + s / 64) ∷ continuation s ∷ [])
    (cond (ltb s 0x10000) ((0xE0 + s / 4096) ∷ continuation (s / 64) ∷ continuation s ∷ [])
    ((0xF0 + s / 262144) ∷ continuation (s / 4096) ∷ continuation (s / 64) ∷ continuation s ∷ [])))

unfoldable pub symbol_bytes : ℕ → List ℕ
symbol_bytes word = utf8 (shown_symbol word)

-- ---- the bytes read back: what pins the definition

-- whether x is from low on and below high
abbrev pub within : ℕ → ℕ → ℕ → Bool
within low high x = leb low x && ltb x high

-- 10xxxxxx
abbrev pub continues : ℕ → Bool
continues byte = within 0x80 0xC0 byte

abbrev pub given_that : Bool → ℕ → Option ℕ
given_that right s = cond right (some s) none

abbrev pub two : ℕ → ℕ → ℕ
two a b = (a - 0xC0) * 64 + (b - 0x80)

abbrev pub three : ℕ → ℕ → ℕ → ℕ
three a b c = (a - 0xE0) * 4096 + (b - 0x80) * 64 + (c - 0x80)

abbrev pub four : ℕ → ℕ → ℕ → ℕ → ℕ
four a b c d = (a - 0xF0) * 262144 + (b - 0x80) * 4096 + (c - 0x80) * 64 + (d - 0x80)

-- 0xxxxxxx; 110xxxxx 10xxxxxx; 1110xxxx 10xxxxxx 10xxxxxx; 11110xxx 10xxxxxx 10xxxxxx 10xxxxxx. The number is in the range of its length and a scalar value.
unfoldable pub decode : List ℕ → Option ℕ
decode [] = none
decode (a ∷ []) = given_that (ltb a 0x80) a
decode (a ∷ b ∷ []) = given_that ((within 0xC0 0xE0 a && continues b) && leb 0x80 (two a b)) (two a b)
decode (a ∷ b ∷ c ∷ []) =
    given_that ((within 0xE0 0xF0 a && (continues b && continues c)) && (leb 0x800 (three a b c) && is_scalar (three a b c))) (three a b c)
decode (a ∷ b ∷ c ∷ d ∷ []) =
    given_that ((within 0xF0 0xF8 a && (continues b && (continues c && continues d))) && (leb 0x10000 (four a b c d) && is_scalar (four a b c d))) (four a b c d)
decode (a ∷ b ∷ c ∷ d ∷ e ∷ more) = none

-- no control character of ASCII among the bytes, which is what a control sequence begins with
abbrev pub AllPlain : List ℕ → Type 0
AllPlain [] = Unit {0}
AllPlain (byte ∷ bytes) = ((0x20 ≤ byte) × (byte ≡ 0x7F → ⊥)) × AllPlain bytes
