-- The screen is blanked and the picture drawn on it; then the bytes of its outcome are put.
use Rattle.report.specs.Printing.{on_blank}
use Rattle.report.proofs.Prints.{same_bytes, on-blank, prints-shown, prints-refused}
use Rattle.report.proofs.program.print_on.Goals as goal

pub returns-in-Ok : goal.returns-in-Ok
returns-in-Ok g c =
    let a = c.args in
    let h = c.in-Ok.ensures in
    let p = on_blank a.file.now a.largest.columns a.largest.rows a.cells.now a.labels.now a.screen.now in
    let w = on-blank a.file.now a.cells.now a.labels.now a.screen.now a.largest.columns a.largest.rows c.blank_screen.ensures (h.drawn, (h.cells, (h.labels, h.screen))) in
    same_bytes a.out.now (prints-shown g.P.Output.text a.file.now p _ _ w.0 c.read.ensures c.read-in-Ok.ensures w.1.1.1) c.write.ensures

pub returns-in-Err : goal.returns-in-Err
returns-in-Err g c =
    let a = c.args in
    let h = c.in-Err.ensures in
    let p = on_blank a.file.now a.largest.columns a.largest.rows a.cells.now a.labels.now a.screen.now in
    let w = on-blank a.file.now a.cells.now a.labels.now a.screen.now a.largest.columns a.largest.rows c.blank_screen.ensures (h.drawn, (h.cells, (h.labels, h.screen))) in
    same_bytes a.out.now (prints-refused g.P.Output.text a.file.now p _ _ w.0) (rw c.from.ensures at c.write_refusal.ensures)
