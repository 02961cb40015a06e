-- The fields are the call's.
use Rattle.std.proofs.Common.{◌≡◌, refl, arith}
use Rattle.std.proofs.lemmas.Result.{err_from_is_err_and}
use Rattle.ledger.specs.Calls.{dot}
use Rattle.ledger.specs.Outcomes.{given}
use Rattle.form.proofs.FieldSteps.{begun, number-step}
use Rattle.records.specs.Records.{dot_call}
use Rattle.records.proofs.Answered.{refused-leaves, painted-leaves}
use Rattle.records.proofs.calls.dot_call.Goals as goal
use Rattle.records.proofs.calls.dot_call.Goals.{After-next-colour}

call-is : (c : After-next-colour) → dot c.next-column.result c.next-row.result c.next-colour.result ≡ dot_call c.args.part.map c.args.part.bytes.now
call-is c =
    let s0 = begun c.new-fields.ensures in
    let x = number-step _ _ s0 c.next-column.ensures.value c.next-column.ensures.after (omega arith) in
    let y = number-step _ _ x.1 c.next-row.ensures.value c.next-row.ensures.after (omega arith) in
    let k = number-step _ _ y.1 c.next-colour.ensures.value c.next-colour.ensures.after (omega arith) in
    rw (x.0, y.0, k.0)

pub returns-in_err-dot : goal.returns-in_err-dot
returns-in_err-dot c =
    let s = given c.args.canvas.now c.args.cells.now c.args.labels.now in
    let h = c.in_err-dot.ensures in
    let l = refused-leaves s (call-is (goal.at.returns-in_err-dot c).After-next-colour) refl h.answer h.canvas h.cells in
    let p = err_from_is_err_and c.from_residual.result c.from_residual.ensures.1 in
    record { refusal = rw (p.1, p.2) l.refusal; state = l.state }

pub returns : goal.returns
returns c =
    let s = given c.args.canvas.now c.args.cells.now c.args.labels.now in
    let h = c.in_ok-dot.ensures in
    let l = painted-leaves s (call-is (goal.at.returns c).After-next-colour) refl h.answer h.canvas h.cells in
    record { refusal = l.refusal; state = l.state }
