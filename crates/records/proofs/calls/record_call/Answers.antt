-- The points and the layer; the other kinds' calls are found.
use Rattle.std.proofs.Common.{refl}
use Rattle.ledger.specs.Calls.{layer}
use Rattle.ledger.specs.Outcomes.{given}
use Rattle.form.specs.Forms.{widths_of}
use Rattle.records.specs.Records.{call_of}
use Rattle.records.proofs.Answered.{done-leaves}
use Rattle.records.proofs.PointsRecords.{few-pairs}
use Rattle.records.proofs.calls.record_call.Goals as goal

pub points_call-requires : goal.points_call-requires
unfolding widths_of
points_call-requires c = few-pairs c.args.part.map c.args.part.bytes.now (rw c.in-Points.is at c.requires.fits) c.requires.short

pub returns-in-Layer : goal.returns-in-Layer
unfolding call_of
returns-in-Layer c =
    let s = given c.args.canvas.now c.args.cells.now c.args.labels.now in
    let l = done-leaves s {c = layer} _ refl refl c.layer.ensures.answer c.layer.ensures.canvas c.layer.ensures.cells in
    rw c.in-Layer.is (record { refusal = l.refusal; state = l.state })
