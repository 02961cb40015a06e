-- What a step says of the refusal behind it, and a record by its form and its call.
use Rattle.std.proofs.Common.{◌≡◌, ℕ, zero, suc, ◌+◌, ◌-◌, ◌≤◌, List, length, take, drop, refl, ap, ◌∙◌, arith}
use borrow.Author.Rules.{part_to_end}
use Rattle.refusals.specs.declared.refusal.Refusal.{Refusal}
use Rattle.refusals.specs.Refusals.{number_of}
use Rattle.ledger.specs.Calls.{Call}
use Rattle.ledger.specs.Model.{State, refusal_on, state_after}
use Rattle.form.specs.Forms.{kind_at, map_at, record_form}
use Rattle.form.proofs.FormSteps.{formed}
use Rattle.refusals.proofs.Numbers.{some-number}
use Rattle.records.specs.Records.{call_of, record_call}
use Rattle.records.specs.Step.{Step, step_unless}
use Rattle.records.specs.Step as step
use Rattle.records.specs.Steps.{refusal_at, record_state}

-- ---- steps

pub next-accepted : (n place next : ℕ) → step.Next next ≡ step_unless n place → (n ≡ 0) × (next ≡ place)
next-accepted zero place next e = (refl, cc)
next-accepted (suc n) place next e = cc

pub refused-number : (n place number : ℕ) → step.Refused number ≡ step_unless n place → (number ≡ n) × (n ≡ 0 → ⊥)
refused-number zero place number e = cc
refused-number (suc n) place number e = (cc, λ z. omega (arith, z))

pub refused-step : (r : Refusal) (n place : ℕ) → number_of r ≡ n → step.Refused (number_of r) ≡ step_unless n place
refused-step r zero place e = absurd (some-number r e)
refused-step r (suc n) place e = cc

pub next-step : (n next place : ℕ) → 0 ≡ n → next ≡ place → step.Next next ≡ step_unless n place
next-step zero next place e f = cc
next-step (suc n) next place e f = absurd (omega (arith, e))

-- ---- a record, refused for its form or called

pub form-refused : (s : State) (file : List ℕ) (at : ℕ) (r : Refusal) → number_of r ≡ record_form file at
    → (number_of r ≡ refusal_at s file at) × (s ≡ record_state s file at)
unfolding refusal_at record_state
form-refused s file at r e = go (number_of r) (some-number r) e
  where
    go : (n : ℕ) → (n ≡ 0 → ⊥) → n ≡ record_form file at → (n ≡ refusal_at s file at) × (s ≡ record_state s file at)
    go zero z e = absurd (z refl)
    go (suc n) z e = rw (← e) (refl, refl)

pub form-called : (s : State) (file : List ℕ) (at : ℕ) {c : Call} {n : ℕ} {after : State} → 0 ≡ record_form file at
    → c ≡ record_call file at → n ≡ refusal_on s c → after ≡ state_after s c
    → (n ≡ refusal_at s file at) × (after ≡ record_state s file at)
unfolding refusal_at record_state
form-called s file at e call r t = rw (← e) (r ∙ ap (refusal_on s) call, t ∙ ap (state_after s) call)

-- its first two bytes lie in the file
pub header_within : (file : List ℕ) (at : ℕ) → 0 ≡ record_form file at → at + 2 ≤ length file
header_within file at e = let f = formed file at e in f.header

-- the rest of the file from a place on, as the code lends it
pub called-part : (file : List ℕ) (at kind : ℕ) → kind ≡ kind_at file at
    → call_of kind (map_at file at) (take (length file - (at + 2)) (drop (at + 2) file)) ≡ record_call file at
unfolding record_call
called-part file at kind e = rw (part_to_end file (at + 2), e)
