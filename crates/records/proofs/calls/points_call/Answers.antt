-- The pairs in the bytes are the call's.
use Rattle.std.proofs.Common.{◌≡◌, refl, arith}
use Rattle.std.proofs.lemmas.Result.{err_from_is_err_and}
use Rattle.ledger.specs.Calls.{points}
use Rattle.ledger.specs.Outcomes.{given}
use Rattle.form.proofs.FieldSteps.{Stand, number-step}
use Rattle.lists.specs.Lists.{pairs_at}
use Rattle.records.specs.Records.{points_call}
use Rattle.records.proofs.PointsRecords.{points-is}
use Rattle.records.proofs.Answered.{refused-leaves, painted-leaves}
use Rattle.records.proofs.calls.points_call.Goals as goal
use Rattle.records.proofs.calls.points_call.Goals.{After-next-colour}

call-is : (c : After-next-colour)
    → points (pairs_at c.unwrap-list.result.part.now 2 c.unwrap-list.result.count) c.next-colour.result ≡ points_call c.args.part.map c.args.part.bytes.now
call-is c =
    let part = c.args.part in
    let place = c.list_end.ensures in
    let at : Stand (record c.new-2.result { at = c.list_end.result; weight = 2 }) part.bytes part.map c.list_end.result 2 =
    record { is = rw c.new-2.ensures; low = omega (arith, place.1); some = omega arith } in
    let k = number-step _ _ at c.next-colour.ensures.value c.next-colour.ensures.after (omega arith) in
    let list = c.unwrap-list.result in
    let pairs : pairs_at list.part.now 2 list.count ≡ pairs_at part.bytes.now 2 c.pair_count.result = rw c.unwrap-list.ensures at c.new.ensures.pairs in
    rw pairs (points-is part.map part.bytes.now _ _ _ c.pair_count.ensures place.0 k.0)

pub returns-in_err-points : goal.returns-in_err-points
returns-in_err-points c =
    let s = given c.args.canvas.now c.args.cells.now c.args.labels.now in
    let h = c.in_err-points.ensures in
    let l = refused-leaves s (call-is (goal.at.returns-in_err-points c).After-next-colour) refl h.answer h.canvas h.cells in
    let p = err_from_is_err_and c.from_residual.result c.from_residual.ensures.1 in
    record { refusal = rw (p.1, p.2) l.refusal; state = l.state }

pub returns : goal.returns
returns c =
    let s = given c.args.canvas.now c.args.cells.now c.args.labels.now in
    let h = c.in_ok-points.ensures in
    let l = painted-leaves s (call-is (goal.at.returns c).After-next-colour) refl h.answer h.canvas h.cells in
    record { refusal = l.refusal; state = l.state }
