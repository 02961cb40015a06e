-- A refused draw, and one that painted.
use Rattle.std.proofs.Common.{refl}
use Rattle.std.proofs.lemmas.Result.{err_from_is_err_and}
use Rattle.ledger.specs.Calls.{draw}
use Rattle.ledger.specs.Outcomes.{given}
use Rattle.records.proofs.Answered.{refused-leaves, painted-leaves}
use Rattle.records.proofs.calls.draw_call.Goals as goal

pub returns-in_err-draw : goal.returns-in_err-draw
returns-in_err-draw c =
    let s = given c.args.canvas.now c.args.cells.now c.args.labels.now in
    let h = c.in_err-draw.ensures in
    let l = refused-leaves s {c = draw c.args.drawing.shape c.args.drawing.colour} refl refl h.answer h.canvas h.cells in
    let p = err_from_is_err_and c.from_residual.result c.from_residual.ensures.1 in
    record { refusal = rw (p.1, p.2) l.refusal; state = l.state }

pub returns : goal.returns
returns c =
    let s = given c.args.canvas.now c.args.cells.now c.args.labels.now in
    let h = c.in_ok-draw.ensures in
    let l = painted-leaves s {c = draw c.args.drawing.shape c.args.drawing.colour} refl refl h.answer h.canvas h.cells in
    record { refusal = l.refusal; state = l.state }
