-- The tests in the order of the code, then the opening's call.
use Rattle.std.proofs.Common.{◌+◌, refl, length-drop, arith}
use Rattle.std.proofs.lemmas.Result.{err_from_is_err_and}
use borrow.Author.Rules.{part_to_end}
use Rattle.refusals.specs.declared.refusal.Refusal.TheVariants.{Size, Cut, Map, Length}
use Rattle.refusals.specs.Refusals.{number_of}
use Rattle.records.specs.Step as step
use Rattle.picture.proofs.Openings.{Read, too_long, ended-early, extra-bit, cut_short, sized, read-made, opening-refused, opening-called}
use Rattle.picture.proofs.opening.open_picture.Goals as goal
use Rattle.picture.proofs.opening.open_picture.Goals.{After-opening_fields-end}

read : (c : After-opening_fields-end) → Read c.args.file.now c.read-columns.result c.read-rows.result c.opening_fields-end.result
read c =
    read-made _ _ _ _ _ (record { within = c.if-file-gt65536.false; header = c.if-file-lt5.false }) c.if-part-ge128.false c.read-columns.ensures c.read-rows.ensures (part_to_end c.args.file.now 5)
    c.opening_fields-end.ensures

pub returns-then-file-gt65536 : goal.returns-then-file-gt65536
returns-then-file-gt65536 c =
    let a = c.args in
    let r = opening-refused a.file.now a.largest.columns a.largest.rows a.cells.now a.labels.now Length
    (too_long a.file.now a.largest.columns a.largest.rows c.if-file-gt65536.true) in
    record { taken = r.0; cells = r.1 }

pub returns-then-file-lt5 : goal.returns-then-file-lt5
returns-then-file-lt5 c =
    let a = c.args in
    let r = opening-refused a.file.now a.largest.columns a.largest.rows a.cells.now a.labels.now Cut
    (ended-early a.file.now a.largest.columns a.largest.rows c.if-file-gt65536.false c.if-file-lt5.true) in
    record { taken = r.0; cells = r.1 }

pub returns-then-part-ge128 : goal.returns-then-part-ge128
returns-then-part-ge128 c =
    let a = c.args in
    let r = opening-refused a.file.now a.largest.columns a.largest.rows a.cells.now a.labels.now Map
    (extra-bit a.file.now a.largest.columns a.largest.rows (record { within = c.if-file-gt65536.false; header = c.if-file-lt5.false }) c.if-part-ge128.true) in
    record { taken = r.0; cells = r.1 }

pub returns-then-part-end : goal.returns-then-part-end
returns-then-part-end c =
    let a = c.args in
    let d = read (goal.at.returns-then-part-end c).After-opening_fields-end in
    let r = opening-refused a.file.now a.largest.columns a.largest.rows a.cells.now a.labels.now Cut
    (cut_short a.largest.columns a.largest.rows d (omega (arith, length-drop 5 a.file.now, c.if-part-end.true))) in
    record { taken = r.0; cells = r.1 }

pub returns-then-columns-largest : goal.returns-then-columns-largest
returns-then-columns-largest c =
    let a = c.args in
    let d = read (goal.at.returns-then-columns-largest c).After-opening_fields-end in
    let r = opening-refused a.file.now a.largest.columns a.largest.rows a.cells.now a.labels.now Size
    (sized a.largest.columns a.largest.rows _ d (omega (arith, length-drop 5 a.file.now, c.if-part-end.false)) c.if-columns-largest.true) in
    record { taken = r.0; cells = r.1 }

pub returns-in_err-canvas : goal.returns-in_err-canvas
returns-in_err-canvas c =
    let a = c.args in
    let d = read (goal.at.returns-in_err-canvas c).After-opening_fields-end in
    let good = sized a.largest.columns a.largest.rows _ d (omega (arith, length-drop 5 a.file.now, c.if-part-end.false)) c.if-columns-largest.false in
    let h = c.in_err-canvas.ensures in
    let p = err_from_is_err_and c.from_residual.result c.from_residual.ensures.1 in
    let r = opening-called a.file.now a.largest.columns a.largest.rows a.cells.now a.labels.now _ _
    (step.Refused (number_of c.in_err-canvas.field-0.0)) _ good (rw d.is at h.canvas) (rw d.is at h.cells) refl d.end in
    record { taken = rw (p.1, p.2) r.0; cells = r.1 }

pub returns : goal.returns
returns c =
    let a = c.args in
    let d = read (goal.at.returns c).After-opening_fields-end in
    let good = sized a.largest.columns a.largest.rows _ d (omega (arith, length-drop 5 a.file.now, c.if-part-end.false)) c.if-columns-largest.false in
    let h = c.in_ok-canvas.ensures in
    let r = opening-called a.file.now a.largest.columns a.largest.rows a.cells.now a.labels.now _ _
    (step.Next (5 + c.opening_fields-end.result.1)) _ good (rw d.is at h.canvas) (rw d.is at h.cells) refl d.end in
    record { taken = r.0; cells = r.1 }
