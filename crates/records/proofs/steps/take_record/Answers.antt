-- Refused for its form, or the call that its bytes stand for.
use Rattle.std.proofs.Common.{◌≤◌, ◌+◌, ◌∙◌, sym, length, drop, length-drop, arith}
use Rattle.std.proofs.lemmas.Result.{err_from_is_err_and}
use borrow.Author.Rules.{part_to_end}
use Rattle.ledger.specs.Outcomes.{given}
use Rattle.form.specs.Fields.{size_by}
use Rattle.form.specs.Forms.{max_file, map_at, record_widths, record_end}
use Rattle.floats.proofs.Cases.{false-not-true}
use Rattle.form.proofs.FormSteps.{formed, known-formed}
use Rattle.records.proofs.RecordSteps.{form-refused, form-called, called-part, refused-step, next-step}
use Rattle.records.proofs.steps.take_record.Goals as goal

pub returns-in_err-end : goal.returns-in_err-end
returns-in_err-end c =
    let a = c.args in
    let s = given a.canvas.now a.cells.now a.labels.now in
    let p = err_from_is_err_and c.from_residual.result c.from_residual.ensures.1 in
    let f = form-refused s a.file.now a.at _ c.in_err-end.ensures.number in
    record { step = rw (p.1, p.2) (refused-step _ _ _ f.0); state = f.1 }

pub returns-in_err-kind : goal.returns-in_err-kind
returns-in_err-kind c =
    let whole = formed c.args.file.now c.args.at c.in_ok-end.ensures.number in
    false-not-true (sym (known-formed c.args.file.now c.args.at whole) ∙ c.in_err-kind.ensures.1)

pub record_call-requires : goal.record_call-requires
unfolding record_end
record_call-requires c =
    let a = c.args in
    let whole = formed a.file.now a.at c.in_ok-end.ensures.number in
    let fit : size_by (map_at a.file.now a.at) (record_widths a.file.now a.at) ≤ length (drop (a.at + 2) a.file.now) = rw (length-drop (a.at + 2) a.file.now) (omega (arith, whole.fit, whole.header)) in
    let short : length (drop (a.at + 2) a.file.now) ≤ max_file = rw (length-drop (a.at + 2) a.file.now) (omega (arith, whole.within)) in
    rw (c.in_ok-kind.ensures, part_to_end a.file.now (a.at + 2)) (record { fits = fit; short = short })

pub returns-in_err-record_call : goal.returns-in_err-record_call
returns-in_err-record_call c =
    let a = c.args in
    let h = c.in_err-record_call.ensures in
    let f = form-called _ a.file.now a.at c.in_ok-end.ensures.number (called-part a.file.now a.at _ c.in_ok-kind.ensures) h.refusal h.state in
    let p = err_from_is_err_and c.from_residual-in_err-record_call.result c.from_residual-in_err-record_call.ensures.1 in
    record { step = rw (p.1, p.2) (refused-step _ _ _ f.0); state = f.1 }

pub returns : goal.returns
returns c =
    let a = c.args in
    let h = c.in_ok-record_call.ensures in
    let f = form-called _ a.file.now a.at c.in_ok-end.ensures.number (called-part a.file.now a.at _ c.in_ok-kind.ensures) h.refusal h.state in
    record { step = next-step _ _ _ f.0 c.in_ok-end.ensures.end; state = f.1 }
