-- Half a one more than a number from -1/4 on is a number from 1/4 on, so `whole_inside` gives its whole part.
use Rattle.std.proofs.Common.{◌≡◌, ℕ, ◌*◌, ◌<◌, ◌≤◌, Bool, true, false, negsuc, sym, refl, subst, le_trans, le_of_eq, mul-le-mul_right, mul_comm, le_of_mul-le-mul_right, arith, pow_pos, le-ltb}
use lib.Ieee.{Float, nan, inf, fin, up, down, add, lt, of_bits}
use Rattle.floats.specs.Arithmetic.{◌⊕◌}
use Rattle.floats.specs.Rounding.{IsUnits, Finite}
use Rattle.floats.specs.Polyfills.{0·25, 0·5}
use Rattle.floats.proofs.Numbers.{IsNumber, finite_number, add-number}
use Rattle.floats.proofs.Monotone.{add-order}
use Rattle.view.proofs.ClampIdle.Bounded.{quarter}

-- finite, and at least -1/4
abbrev pub FromMinusQuarter : Float → Type 0
FromMinusQuarter nan = ⊥
FromMinusQuarter (inf s) = ⊥
FromMinusQuarter (fin true m e) = m * up e * 4 ≤ down e
FromMinusQuarter (fin false m e) = Unit {0}

pub from-units : (x : Float) (s : Bool) (n : ℕ) → IsUnits x s n → (s ≡ true → n ≤ quarter) → FromMinusQuarter x
from-units nan s n h l = absurd h
from-units (inf t) s n h l = absurd h
from-units (fin true m e) s n h l = quarters (m * up e) (down e) n quarter h.1 (l (sym h.0)) (pow_pos 1072)
  where
    quarters : (v d k u : ℕ) → v * (u * 4) ≡ k * d → k ≤ u → 0 < u → v * 4 ≤ d
    quarters v d k u p g U = le_of_mul-le-mul_right (le_trans (le_of_eq (omega (arith, p))) (le_trans (mul-le-mul_right d g) (le_of_eq (mul_comm u d)))) U
from-units (fin false m e) s n h l = tt

minus-quarter : fin true 1 (negsuc 1) ⊕ 0·5 ≡ 0·25
unfolding add of_bits
minus-quarter = refl

from-quarter : (v : Float) → FromMinusQuarter v → lt v (fin true 1 (negsuc 1)) ≡ false
unfolding lt
from-quarter nan h = absurd h
from-quarter (inf s) h = absurd h
from-quarter (fin true m e) h = le-ltb (1 * down e) (m * up e * 4) (plain (m * up e * 4) (down e) h)
  where
    plain : (a d : ℕ) → a ≤ d → a ≤ 1 * d
    plain a d l = omega arith
from-quarter (fin false m e) h = refl

pub sum-from-quarter : (v : Float) → FromMinusQuarter v → lt (v ⊕ 0·5) 0·25 ≡ false
sum-from-quarter v h = subst (λ (y : Float). lt (v ⊕ 0·5) y ≡ false) minus-quarter (add-order v (fin true 1 (negsuc 1)) 0·5 (from-quarter v h))

from-finite : (v : Float) → FromMinusQuarter v → Finite v
from-finite nan h = h
from-finite (inf s) h = h
from-finite (fin s m e) h = tt

pub sum_number : (v : Float) → FromMinusQuarter v → IsNumber (v ⊕ 0·5)
unfolding of_bits
sum_number v h = add-number v 0·5 (finite_number v (from-finite v h)) tt
