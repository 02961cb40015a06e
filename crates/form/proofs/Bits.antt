-- The bit patterns of a NaN: those above infinity's, the sign set aside; and those outside the domain.
use Rattle.std.proofs.Common.{◌≡◌, ℕ, ◌%◌, ◌<◌, ◌≤◌, true, false, not, ltb, leb, sym, refl, ◌∙◌, inl, inr, le-ltb, lt-ltb, le-leb}
use lib.Ieee.{Float, binary64, nan, inf, fin, of_bits, nan_bits, is_nan}
use lib.Ieee.Bits.{nan_bits_is, nan_bits_above}
use borrow.Author.Tests.{lt-leb}
use Rattle.std.proofs.lemmas.Bool.{cases_lt}
use Rattle.floats.specs.Domain.{in_domain}
use Rattle.floats.proofs.Cases.{false-not-true}
use Rattle.floats.proofs.DomainBits.{domain-by-bits}

is-nan : (x : Float) → is_nan x ≡ true → x ≡ nan
unfolding is_nan
is-nan nan e = refl
is-nan (inf s) e = false-not-true e
is-nan (fin s m k) e = false-not-true e

pub nan-above : (n : ℕ) → 9218868437227405312 < n % 9223372036854775808 → of_bits binary64 n ≡ nan
nan-above n h = is-nan (of_bits binary64 n) (sym (nan_bits_is binary64 n) ∙ (nan_bits_above binary64 n ∙ lt-ltb _ _ h))

pub not-nan : (n : ℕ) → n % 9223372036854775808 ≤ 9218868437227405312 → nan_bits binary64 n ≡ false
not-nan n h = nan_bits_above binary64 n ∙ le-ltb _ _ h

above-not : (a b : ℕ) → ltb b a ≡ not (leb a b)
above-not a b = elim (cases_lt b a) [
  | inl h ↦ rw (lt-ltb b a h, lt-leb a b h)
  | inr h ↦ rw (le-ltb b a h, le-leb a b h)
]

pub far_above : (n : ℕ) → ltb 4787326403894837248 (n % 9223372036854775808) ≡ not (in_domain (of_bits binary64 n))
far_above n = above-not (n % 9223372036854775808) 4787326403894837248 ∙ rw (domain-by-bits n)
