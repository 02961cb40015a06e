-- The results in the code, as the definitions have them.
use Rattle.std.specs.Prelude.{ℕ, Result, Ok, Err}
use Rattle.refusals.specs.declared.refusal.Refusal.{Refusal}
use Rattle.refusals.specs.Refusals.{number_of}
use Rattle.ledger.specs.Model.{zero_canvas}
use Rattle.ledger.specs.declared.state.Canvas.{Canvas}
use Rattle.canvas.specs.declared.calls.Rendered.{Rendered}
use Rattle.records.specs.Step as step
use Rattle.records.specs.Steps.{Taken}
use Rattle.picture.specs.Stop.{Stop}
use Rattle.picture.specs.Stop as stop
use Rattle.picture.specs.Drawn.{Drawn}
use Rattle.picture.specs.Drawn as drawn
use Rattle.picture.specs.declared.run.Fault.{Fault}

-- of an opening: the canvas of a refused one is blank, and of no size
abbrev pub taken_in : Result (Canvas × ℕ) Refusal → Taken
taken_in (Ok (canvas, next)) = record { canvas = canvas; step = step.Next next }
taken_in (Err r) = record { canvas = zero_canvas; step = step.Refused (number_of r) }

-- of the records of a file
abbrev pub stop_in : Result (Unit {0}) Fault → Stop
stop_in (Ok x) = stop.End
stop_in (Err f) = stop.Refused (number_of f.refusal) f.place

-- of a whole file
abbrev pub drawn_in : Result Rendered Fault → Drawn
drawn_in (Ok r) = drawn.Shown r.painted r.label_cells
drawn_in (Err f) = drawn.Refused (number_of f.refusal) f.place
