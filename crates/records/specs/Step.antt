-- The step that an opening or a record makes in the file.
use Rattle.std.specs.Prelude.{ℕ, zero, suc, Result, Ok, Err}
use Rattle.refusals.specs.declared.refusal.Refusal.{Refusal}
use Rattle.refusals.specs.Refusals.{number_of}

-- the next place in the file, or the refusal with document 01's number
pub data Step : Type 0 where
  Next : ℕ → Step
  Refused : ℕ → Step

abbrev pub step_unless : ℕ → ℕ → Step
step_unless zero next = Next next
step_unless (suc number) next = Refused (suc number)

-- the code's result
abbrev pub step_in : Result ℕ Refusal → Step
step_in (Ok next) = Next next
step_in (Err r) = Refused (number_of r)
