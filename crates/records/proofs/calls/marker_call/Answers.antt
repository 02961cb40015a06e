-- The fields are the call's.
use Rattle.std.proofs.Common.{◌≡◌, refl, arith}
use Rattle.ledger.specs.Calls.{marker}
use Rattle.ledger.specs.Outcomes.{given}
use Rattle.form.proofs.FieldSteps.{begun, number-step}
use Rattle.records.specs.Records.{marker_call}
use Rattle.records.proofs.Answered.{done-leaves}
use Rattle.records.proofs.calls.marker_call.Goals as goal

pub returns : goal.returns
returns c =
    let s = given c.args.canvas.now c.args.cells.now c.args.labels.now in
    let s0 = begun c.new-fields.ensures in
    let n = number-step _ _ s0 c.next-number.ensures.value c.next-number.ensures.after (omega arith) in
    let k = number-step _ _ n.1 c.next-character.ensures.value c.next-character.ensures.after (omega arith) in
    let e : marker c.next-number.result c.next-character.result ≡ marker_call c.args.part.map c.args.part.bytes.now = rw (n.0, k.0) in
    let l = done-leaves s _ e refl c.marker.ensures.answer c.marker.ensures.canvas c.marker.ensures.cells in
    record { refusal = l.refusal; state = l.state }
