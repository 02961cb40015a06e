-- What a run of records comes to after one of them.
use mathlib.Core.Path.{◌≡◌, refl, sym}
use mathlib.Core.List.{List}
use Prim.Native.Nat.{ℕ, zero, suc, ◌+◌, ◌≤◌, ◌<◌}
use native.Mathlib.Omega.{arith}
use lib.ListN.{length}
use borrow.Author.Tests.{lt-ltb, le-ltb}
use Rattle.ledger.specs.Ledger.{unless}
use Rattle.ledger.specs.Model.{State, or_refusal, refusal_on, state_after, accepted_on}
use Rattle.records.specs.Records.{record_call}
use Rattle.form.specs.Forms.{record_end, record_form}
use Rattle.records.specs.Steps.{refusal_at, record_state}
use Rattle.picture.specs.Run.{run_from, records_from}
use Rattle.records.specs.Step.{step_unless}
use Rattle.records.specs.Step as step
use Rattle.picture.specs.Stop as stop
use Rattle.records.proofs.RecordSteps.{next-accepted, refused-number}

-- a refused record changes nothing
pub refused-same : (s : State) (file : List ℕ) (at : ℕ) → (refusal_at s file at ≡ 0 → ⊥) → record_state s file at ≡ s
unfolding refusal_at record_state state_after
refused-same s file at some = go (record_form file at) (refusal_on s (record_call file at)) refl some
  where
    go : (n m : ℕ) → m ≡ refusal_on s (record_call file at) → (or_refusal n m ≡ 0 → ⊥) → unless n s (unless (refusal_on s (record_call file at)) s (accepted_on s (record_call file at))) ≡ s
    go (suc n) m e some = refl
    go zero (suc m) e some = rw (← e)
    go zero zero e some = absurd (some refl)

pub further : (file : List ℕ) (at : ℕ) → at < record_end file at
unfolding record_end
further file at = omega arith

-- fuel for every byte that is left is enough
enough : (n m : ℕ) (file : List ℕ) (at : ℕ) (s : State) → length file ≤ n + at → length file ≤ m + at → run_from n file at s ≡ run_from m file at s
unfolding run_from
enough zero zero file at s h k = refl
enough zero (suc m) file at s h k = rw (le-ltb at (length file) (omega (arith, h)))
enough (suc n) zero file at s h k = rw (le-ltb at (length file) (omega (arith, k)))
enough (suc n) (suc m) file at s h k = rw (enough n m file (record_end file at) (record_state s file at) (omega (arith, further file at, h)) (omega (arith, further file at, k)))

pub run-next : (file : List ℕ) (at : ℕ) (s : State) → at < length file → refusal_at s file at ≡ 0 → records_from file at s ≡ records_from file (record_end file at) (record_state s file at)
unfolding run_from
run-next file at s l e = go (length file) refl
  where
    go : (n : ℕ) → n ≡ length file → run_from n file at s ≡ records_from file (record_end file at) (record_state s file at)
    go zero z = absurd (omega (arith, l, z))
    go (suc n) z = rw (lt-ltb at (length file) l, e) (enough n (length file) file (record_end file at) (record_state s file at) (omega (arith, z, further file at)) (omega arith))

pub run-refused : (file : List ℕ) (at : ℕ) (s : State) → at < length file → (refusal_at s file at ≡ 0 → ⊥) → records_from file at s ≡ record { state = s; stop = stop.Refused (refusal_at s file at) at }
unfolding run_from
run-refused file at s l some = go (length file) (refusal_at s file at) refl refl
  where
    go : (n m : ℕ) → n ≡ length file → m ≡ refusal_at s file at → run_from n file at s ≡ record { state = s; stop = stop.Refused (refusal_at s file at) at }
    go zero m z e = absurd (omega (arith, l, z))
    go (suc n) zero z e = absurd (some (sym e))
    go (suc n) (suc m) z e = rw (lt-ltb at (length file) l, ← e)

pub run_end : (file : List ℕ) (at : ℕ) (s : State) → length file ≤ at → records_from file at s ≡ record { state = s; stop = stop.End }
unfolding run_from
run_end file at s l = go (length file)
  where
    go : (n : ℕ) → run_from n file at s ≡ record { state = s; stop = stop.End }
    go zero = refl
    go (suc n) = rw (le-ltb at (length file) l)

pub went_on : (s after : State) (file : List ℕ) (at next : ℕ) → at < length file → step.Next next ≡ step_unless (refusal_at s file at) (record_end file at) → after ≡ record_state s file at
    → (at < next) × (records_from file next after ≡ records_from file at s)
went_on s after file at next h e a =
    let n = next-accepted (refusal_at s file at) (record_end file at) next e in
    (rw n.1 (further file at), rw (n.1, a) (sym (run-next file at s h n.0)))

pub stopped : (s after : State) (file : List ℕ) (at number : ℕ) → at < length file → step.Refused number ≡ step_unless (refusal_at s file at) (record_end file at) → after ≡ record_state s file at
    → records_from file at s ≡ record { state = after; stop = stop.Refused number at }
stopped s after file at number h e a =
    let n = refused-number (refusal_at s file at) (record_end file at) number e in
    rw (n.0, a, refused-same s file at n.1) (run-refused file at s h n.1)
