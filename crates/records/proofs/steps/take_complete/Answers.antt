-- A record of good form, and the call that its bytes stand for.
use Rattle.std.proofs.lemmas.Result.{err_from_is_err_and}
use Rattle.records.specs.Complete.{complete_number}
use Rattle.records.proofs.RecordSteps.{form-called, refused-step, next-step}
use Rattle.records.proofs.CompleteRecords.{complete-end, complete-form, complete-call-is}
use Rattle.records.proofs.steps.take_complete.Goals as goal

pub returns-in_err-complete_call : goal.returns-in_err-complete_call
returns-in_err-complete_call c =
    let a = c.args in
    let k = complete_number a.kind in
    let h = c.in_err-complete_call.ensures in
    let f = form-called _ a.file.now a.at (complete-form a.file.now a.at k c.requires) (complete-call-is a.file.now a.at k c.requires) h.refusal h.state in
    let p = err_from_is_err_and c.from_residual.result c.from_residual.ensures.1 in
    record { step = rw (p.1, p.2) (refused-step _ _ _ f.0); state = f.1 }

pub returns : goal.returns
returns c =
    let a = c.args in
    let k = complete_number a.kind in
    let h = c.in_ok-complete_call.ensures in
    let f = form-called _ a.file.now a.at (complete-form a.file.now a.at k c.requires) (complete-call-is a.file.now a.at k c.requires) h.refusal h.state in
    record { step = next-step _ _ _ f.0 (rw c.complete_size.ensures (complete-end a.file.now a.at k c.requires)); state = f.1 }
