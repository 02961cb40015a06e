-- The domain by the bits: without the sign those of a float of the domain are at most those of 2 ^ 40.
-- A pattern's exponent field x and digits t stand for 2 ^ 52 + t over 2 ^ 52 times 2 ^ (x - 1023), so 2 ^ 40 has the field 1063 and no digits.
use Rattle.std.proofs.Common.{◌≡◌, ℕ, zero, suc, ◌+◌, ◌*◌, ◌/◌, ◌%◌, ◌^◌, ◌<◌, ◌≤◌, Bool, true, false, cond, eqb, leb, sym, refl, ap, ◌∙◌, inl, inr, le_trans, le_of_eq, lt_of_lt_of_le, lt_of_le_of_lt, mul-le-mul_right, mul_comm, lt_of_mul-lt-mul_right, eq-or-lt_of_le, mul-lt-mul_of_pos_right, mul_right_comm, le_of_mul-le-mul_right, arith, lit<, lit≤, pow_pos, pow_mono, pow-add, eq-eqb, ne_eqb, le-leb}
use lib.Ieee.{Float, nan, inf, fin, binary64, up, down, odd, of_fields, of_bits}
use lib.Ieee.Digits.{Equals, odd_val}
use lib.Ieee.Fits.{down_pos}
use borrow.Author.Tests.{lt-leb}
use Rattle.std.proofs.lemmas.Bool.{cases_lt}
use Rattle.floats.specs.Domain.{in_domain}

-- ---- a float of value a / c is in the domain where a / c is at most 2 ^ 40
scaled-le : (v d a c : ℕ) → v * c ≡ a * d → 0 < d → a ≤ 2 ^ 40 * c → v * c ≤ 2 ^ 40 * d * c
scaled-le v d a c e D h = le_trans (le_of_eq e) (le_trans (mul-le-mul_right d h) (le_of_eq (mul_right_comm (2 ^ 40) c d)))

scaled-lt : (v d a c : ℕ) → v * c ≡ a * d → 0 < d → 2 ^ 40 * c < a → 2 ^ 40 * d * c < v * c
scaled-lt v d a c e D h = lt_of_le_of_lt (le_of_eq (mul_right_comm (2 ^ 40) d c)) (lt_of_lt_of_le (mul-lt-mul_of_pos_right h D) (le_of_eq (sym e)))

domain-value : (x : Float) (a c : ℕ) → 0 < c → Equals x a c → in_domain x ≡ leb a (2 ^ 40 * c)
unfolding in_domain
domain-value nan a c C e = absurd e
domain-value (inf s) a c C e = absurd e
domain-value (fin s m k) a c C e = elim (cases_lt (2 ^ 40 * c) a) [
  | inl h ↦ rw (lt-leb _ _ h, lt-leb _ _ (lt_of_mul-lt-mul_right c (scaled-lt (m * up k) (down k) a c e (down_pos k) h)))
  | inr h ↦ rw (le-leb _ _ h, le-leb _ _ (le_of_mul-le-mul_right (scaled-le (m * up k) (down k) a c e (down_pos k) h) C))
]

-- ---- a pattern of field x and digits t
abbrev last : ℕ
last = 1063 * 2 ^ 52

few : (x t : ℕ) → t < 2 ^ 52 → suc x * 2 ^ 52 + t ≤ last → (2 ^ 52 + t) * 2 ^ x ≤ 2 ^ 40 * 2 ^ 1074
few x t T h = elim (cases_lt x 1062) [
  | inl l ↦ le_trans (mul-le-mul_right (2 ^ x) (under t T)) (le_trans (le_of_eq (sym (pow-add 2 53 x))) (le_trans (pow_mono (sum x l)) (le_of_eq (pow-add 2 40 1074))))
  | inr l ↦ le_trans (le_of_eq (ap (λ (k : ℕ). (2 ^ 52 + t) * 2 ^ k) (at_last x t h l).0)) (le_trans (le_of_eq (ap (λ (k : ℕ). (2 ^ 52 + k) * 2 ^ 1062) (at_last x t h l).1)) (lit≤ tt))
]
  where
    under : (t : ℕ) → t < 2 ^ 52 → 2 ^ 52 + t ≤ 2 ^ 53
    under t T = omega arith

    sum : (x : ℕ) → x < 1062 → 53 + x ≤ 40 + 1074
    sum x l = omega arith

    at_last : (x t : ℕ) → suc x * 2 ^ 52 + t ≤ last → 1062 ≤ x → (x ≡ 1062) × (t ≡ 0)
    at_last x t h l = (omega arith, omega arith)

many : (x t : ℕ) → last < suc x * 2 ^ 52 + t → t < 2 ^ 52 → 2 ^ 40 * 2 ^ 1074 < (2 ^ 52 + t) * 2 ^ x
many x t h T = elim (cases_lt 1062 x) [
  | inl l ↦ lt_of_lt_of_le (lit< tt) (le_trans (mul-le-mul_right (2 ^ 1063) (more t)) (mul-le-right (2 ^ 52 + t) (pow_mono l)))
  | inr l ↦ lt_of_lt_of_le (lt_of_le_of_lt (lit≤ tt) (mul-lt-mul_of_pos_right (above x t h T l).1 (pow_pos 1062))) (le_of_eq (ap (λ (k : ℕ). (2 ^ 52 + t) * 2 ^ k) (sym (above x t h T l).0)))
]
  where
    more : (t : ℕ) → 2 ^ 52 ≤ 2 ^ 52 + t
    more t = omega arith

    mul-le-right : (a : ℕ) {b c : ℕ} → b ≤ c → a * b ≤ a * c
    mul-le-right a {b} {c} h = le_trans (le_of_eq (mul_comm a b)) (le_trans (mul-le-mul_right a h) (le_of_eq (mul_comm c a)))

    above : (x t : ℕ) → last < suc x * 2 ^ 52 + t → t < 2 ^ 52 → x ≤ 1062 → (x ≡ 1062) × (2 ^ 52 < 2 ^ 52 + t)
    above x t h T l = (omega arith, omega arith)

fields-domain : (s : Bool) (x t : ℕ) → x < 2048 → t < 2 ^ 52 → in_domain (of_fields binary64 s x t) ≡ leb (x * 2 ^ 52 + t) last
unfolding of_fields in_domain
fields-domain s zero t X T = domain-value (odd 53 s t 0 1074) (t * 2 ^ 0) (2 ^ 1074) (pow_pos 1074) (odd_val 53 s t 0 1074) ∙ le-leb _ _ (small t T) ∙ sym (le-leb _ _ (low t T))
  where
    small : (t : ℕ) → t < 2 ^ 52 → t * 2 ^ 0 ≤ 2 ^ 40 * 2 ^ 1074
    small t T = le_trans (one t T) (lit≤ tt)
      where
        one : (t : ℕ) → t < 2 ^ 52 → t * 2 ^ 0 ≤ 2 ^ 52
        one t T = omega arith

    low : (t : ℕ) → t < 2 ^ 52 → 0 * 2 ^ 52 + t ≤ last
    low t T = omega arith
fields-domain s (suc x) t X T = elim (eq-or-lt_of_le (at_most x X)) [
  | inl e ↦ rw (eq-eqb (suc x) 2047 e) (infinite (eqb t 0) ∙ sym (lt-leb _ _ (far x t e)))
  | inr l ↦ rw (ne_eqb (suc x) 2047 (λ e. apart (suc x) l e)) (domain-value (odd 53 s (2 ^ 52 + t) x 1074) ((2 ^ 52 + t) * 2 ^ x) (2 ^ 1074) (pow_pos 1074) (odd_val 53 s (2 ^ 52 + t) x 1074) ∙ same)
]
  where
    at_most : (x : ℕ) → suc x < 2048 → suc x ≤ 2047
    at_most x h = omega arith

    apart : (a : ℕ) → a < 2047 → a ≡ 2047 → ⊥
    apart a l e = omega arith

    far : (x t : ℕ) → suc x ≡ 2047 → last < suc x * 2 ^ 52 + t
    far x t e = omega arith

    infinite : (b : Bool) → in_domain (cond b (inf s) nan) ≡ false
    infinite true = refl
    infinite false = refl

    same : leb ((2 ^ 52 + t) * 2 ^ x) (2 ^ 40 * 2 ^ 1074) ≡ leb (suc x * 2 ^ 52 + t) last
    same = elim (cases_lt last (suc x * 2 ^ 52 + t)) [
      | inl h ↦ lt-leb _ _ (many x t h T) ∙ sym (lt-leb _ _ h)
      | inr h ↦ le-leb _ _ (few x t T h) ∙ sym (le-leb _ _ h)
    ]

pub domain-by-bits : (n : ℕ) → in_domain (of_bits binary64 n) ≡ leb (n % 9223372036854775808) 4787326403894837248
unfolding of_bits
domain-by-bits n = fields-domain (leb 9223372036854775808 n) (n % 9223372036854775808 / 2 ^ 52) (n % 2 ^ 52) (field n) (digits n) ∙ ap (λ (k : ℕ). leb k last) (both n)
  where
    field : (n : ℕ) → n % 9223372036854775808 / 2 ^ 52 < 2048
    field n = omega arith

    digits : (n : ℕ) → n % 2 ^ 52 < 2 ^ 52
    digits n = omega arith

    both : (n : ℕ) → n % 9223372036854775808 / 2 ^ 52 * 2 ^ 52 + n % 2 ^ 52 ≡ n % 9223372036854775808
    both n = omega arith
