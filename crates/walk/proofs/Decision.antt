-- Signed numbers as differences of naturals: the sums, differences and tests of the decision value.
use Rattle.std.proofs.Common.{◌≡◌, ℕ, zero, suc, ◌+◌, ◌-◌, ◌^◌, ◌<◌, ◌≤◌, Bool, true, false, cond, ltb, ℤ, pos, negsuc, ◌+ℤ◌, ◌-ℤ◌, refl, arith, w64, to_z, of_z, ltb-false, ltb-true, lt-ltb}
use mir.ValLaws.{to_z-of_z}
use lib.IntN.{sub_ℕ}
use lib.Signed.{mag, lt_z}
use Rattle.floats.proofs.Cases.{false-not-true}
use Rattle.walk.specs.Walk.{small}

-- z is p less q
abbrev pub Less : ℤ → ℕ → ℕ → Type 0
Less (pos n) p q = p ≡ q + n
Less (negsuc n) p q = p + suc n ≡ q

pub less-of-naturals : (a b p q : ℕ) → p + b ≡ q + a → Less (sub_ℕ a b) p q
less-of-naturals a b p q h = go (ltb a b) refl
  where
    go : (t : Bool) → ltb a b ≡ t → Less (cond t (negsuc (b - suc a)) (pos (a - b))) p q
    go true e = omega (arith, ltb-true a b e)
    go false e = omega (arith, ltb-false a b e)

pub less-raised : (z : ℤ) (m p q : ℕ) → Less z p q → Less (z +ℤ pos m) (p + m) q
less-raised (pos n) m p q h = omega arith
less-raised (negsuc n) m p q h = less-of-naturals m (suc n) (p + m) q (omega arith)

pub less-lowered : (z : ℤ) (m p q : ℕ) → Less z p q → Less (z -ℤ pos m) p (q + m)
less-lowered (pos n) zero p q h = omega arith
less-lowered (pos n) (suc m) p q h = less-of-naturals n (suc m) p (q + suc m) (omega arith)
less-lowered (negsuc n) zero p q h = less-of-naturals zero (suc n) p (q + zero) (omega arith)
less-lowered (negsuc n) (suc m) p q h = omega arith

pub less_as : (z : ℤ) (p q r s : ℕ) → Less z p q → p ≡ r → q ≡ s → Less z r s
less_as (pos n) p q r s h e f = omega arith
less_as (negsuc n) p q r s h e f = omega arith

pub less-above : (z : ℤ) (p q : ℕ) → Less z p q → lt_z (pos 0) z ≡ true → q < p
less-above (pos n) p q h t = omega (arith, ltb-true 0 n t)
less-above (negsuc n) p q h t = false-not-true t

pub less-not-above : (z : ℤ) (p q : ℕ) → Less z p q → lt_z (pos 0) z ≡ false → p ≤ q
less-not-above (pos n) p q h t = omega (arith, ltb-false 0 n t)
less-not-above (negsuc n) p q h t = omega arith

-- ---- sizes
pub less-mag : (z : ℤ) (p q b : ℕ) → Less z p q → p < q + b → q < p + b → mag z < b
less-mag (pos n) p q b h i j = omega arith
less-mag (negsuc n) p q b h i j = omega arith

pub mag-small : (z : ℤ) → mag z < 2 ^ 20 → small z ≡ true
mag-small (pos n) h = lt-ltb n 1048576 h
mag-small (negsuc n) h = rw (lt-ltb n 1048576 h) refl

-- a number that fits 64 bits comes back from them
pub from_bits : (z : ℤ) → mag z < 2 ^ 63 → to_z w64 (of_z w64 z) ≡ z
from_bits z h = to_z-of_z w64 z (record { sfits = h })
