-- A chain of conditions of a refusal: what is known after a `?`, and at its exit.
use Rattle.std.specs.Prelude.{ℕ, suc, Bool, true, false, cond, ◌≡◌}
use Rattle.std.proofs.Common.{arith, refl}
use Rattle.refusals.specs.declared.refusal.Refusal.{Refusal}
use Rattle.refusals.specs.Refusals.{number_of}
use Rattle.refusals.proofs.Numbers.{some-number}

-- a condition that a `?` passed is not met
pub passed : (met : Bool) (n : ℕ) → 0 ≡ cond met (suc n) 0 → met ≡ false
passed true n e = absurd (omega arith)
passed false n e = refl

-- a condition at whose exit a call is refused is met
pub stopped : (r : Refusal) (met : Bool) (n : ℕ) → number_of r ≡ cond met n 0 → met ≡ true
stopped r true n e = refl
stopped r false n e = absurd (some-number r e)

-- both, for the functions that list conditions
pub ruleset conditions = (passed, stopped)
