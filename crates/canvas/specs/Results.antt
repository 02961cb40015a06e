-- The calls' results in the code, as the answers of the model.
use Rattle.std.specs.Prelude.{ℕ, Option, Result, Ok, Err}
use Rattle.refusals.specs.declared.refusal.Refusal.{Refusal}
use Rattle.refusals.specs.Refusals.{number_of}
use Rattle.ledger.specs.Model.{zero_canvas}
use Rattle.ledger.specs.PointCall.{pointed_to}
use Rattle.ledger.specs.declared.state.Canvas.{Canvas}
use Rattle.ledger.specs.Answer.{Answer, Called}
use Rattle.ledger.specs.Answer as answer
use Rattle.ledger.specs.Pointed.{Pointed}
use Rattle.ledger.specs.Pointed as pointed
use Rattle.canvas.specs.declared.calls.Rendered.{Rendered}

-- of open: the canvas of a refused one is blank, and of no size
abbrev pub opened : Result Canvas Refusal → Called
opened (Ok canvas) = record { canvas = canvas; answer = answer.Done }
opened (Err r) = record { canvas = zero_canvas; answer = answer.Refused (number_of r) }

-- of draw, points and dot
abbrev pub painted : Result ℕ Refusal → Answer
painted (Ok n) = answer.Painted n
painted (Err r) = answer.Refused (number_of r)

-- of layer, marker and print
abbrev pub done : Result (Unit {0}) Refusal → Answer
done (Ok x) = answer.Done
done (Err r) = answer.Refused (number_of r)

-- of render
abbrev pub rendered : Result Rendered Refusal → Answer
rendered (Ok r) = answer.Rendered r.painted r.label_cells
rendered (Err r) = answer.Refused (number_of r)

-- of get_point
abbrev pub found : Result (Option (ℕ × ℕ)) Refusal → Pointed
found (Ok point) = pointed_to point
found (Err r) = pointed.Refused (number_of r)
