-- The fields are the call's.
use Rattle.std.proofs.Common.{◌≡◌, refl, arith}
use Rattle.ledger.specs.Calls.{print}
use Rattle.ledger.specs.Outcomes.{given}
use Rattle.form.proofs.FieldSteps.{begun, real-step, option_read}
use Rattle.records.specs.Records.{label_call}
use Rattle.records.proofs.Answered.{label-leaves}
use Rattle.records.proofs.calls.label_call.Goals as goal

pub returns : goal.returns
returns c =
    let s = given c.args.canvas.now c.args.cells.now c.args.labels.now in
    let s0 = begun c.new-fields.ensures in
    let x = real-step s0 c.real-x.ensures.value c.real-x.ensures.after (omega arith) in
    let y = real-step x.1 c.real-y.ensures.value c.real-y.ensures.after (omega arith) in
    let k = option_read _ y.1 c.optional-colour.ensures.value in
    let call = print c.real-x.result c.real-y.result c.text_of-text.result.now c.optional-colour.result in
    let e : call ≡ label_call c.args.part.map c.args.part.bytes.now = rw (x.0, y.0, k, c.text_of-text.ensures) in
    let l = label-leaves s _ e refl c.print.ensures.answer c.print.ensures.canvas c.print.ensures.labels in
    record { refusal = l.refusal; state = l.state }
