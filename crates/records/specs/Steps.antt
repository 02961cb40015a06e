-- What a record gives for every file and every store: the step in the file, and the canvas and the lent lists after it.
use Rattle.std.specs.Prelude.{ℕ, List}
use Rattle.ledger.specs.Ledger.{unless}
use Rattle.ledger.specs.Model.{State, or_refusal, refusal_on, state_after}
use Rattle.ledger.specs.declared.state.Canvas.{Canvas}
use Rattle.form.specs.Forms.{record_end, record_form}
use Rattle.records.specs.Records.{record_call}
use Rattle.records.specs.Step.{Step, step_unless}

-- the canvas after an opening or a record, and the step
pub record Taken : Type 0 where
  pub canvas : Canvas
  pub step : Step

-- ---- a record: the form of its bytes, then the call's own

unfoldable pub refusal_at : State → List ℕ → ℕ → ℕ
refusal_at s file at = or_refusal (record_form file at) (refusal_on s (record_call file at))

unfoldable pub record_state : State → List ℕ → ℕ → State
record_state s file at = unless (record_form file at) s (state_after s (record_call file at))

abbrev pub record_taken : State → List ℕ → ℕ → Taken
record_taken s file at = record { canvas = (record_state s file at).canvas; step = step_unless (refusal_at s file at) (record_end file at) }
