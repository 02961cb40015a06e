-- What holds of both answers of a test holds of its answer; and a chain of conditions that gives none.
use Prim.Native.Nat.{ℕ, suc}
use mathlib.Core.Path.{◌≡◌, refl}
use mathlib.Core.Bool.{Bool, true, false, cond}
use native.Mathlib.Omega.{arith}

pub either : {A : Type 0} (P : A → Type 0) (t : Bool) {x y : A} → P x → P y → P (cond t x y)
either P true p q = p
either P false p q = q

-- a chain of conditions, each with a number above 0, that gives 0
pub cond-none : (b : Bool) (number other : ℕ) → cond b (suc number) other ≡ 0 → (b ≡ false) × (other ≡ 0)
cond-none true number other e = absurd (omega arith)
cond-none false number other e = (refl, e)
