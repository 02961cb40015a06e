-- Refused at the opening or at a record, or rendered.
use Rattle.std.proofs.Common.{sym, ◌∙◌, ap, refl}
use Rattle.std.proofs.lemmas.Result.{err_from_is_err_and}
use Rattle.ledger.specs.Model.{State}
use Rattle.picture.proofs.Whole.{gives-stopped, gives-rendered, opening-stopped, opening-ran}
use Rattle.picture.proofs.run.draw_picture.Goals as goal

pub returns-in-Err : goal.returns-in-Err
returns-in-Err c =
    let a = c.args in
    let o = c.in-Err.ensures in
    let g = opening-stopped a.file.now a.largest.columns a.largest.rows a.cells.now a.labels.now a.screen.now _ _ _ o.taken o.cells refl in
    record { drawn = g.0; cells = g.1.0; labels = g.1.1.0; screen = g.1.1.1 }

pub returns-in_err-take_records-in-Ok : goal.returns-in_err-take_records-in-Ok
returns-in_err-take_records-in-Ok c =
    let a = c.args in
    let o = c.in-Ok.ensures in
    let run = opening-ran a.file.now a.largest.columns a.largest.rows a.cells.now a.labels.now _ _ _ o.taken o.cells refl in
    let p = err_from_is_err_and c.from_residual.result c.from_residual.ensures.1 in
    let t = c.in_err-take_records-in-Ok.ensures in
    let g = gives-stopped a.file.now a.largest.columns a.largest.rows a.cells.now a.labels.now a.screen.now _ _ _ run (sym t.stop) in
    record {
      drawn = rw (p.1, p.2) g.0;
      cells = ap (λ (x : State). x.cells) t.state ∙ g.1.0;
      labels = ap (λ (x : State). x.labels) t.state ∙ g.1.1.0;
      screen = g.1.1.1;
    }

pub returns-in_ok-take_records-in-Ok : goal.returns-in_ok-take_records-in-Ok
returns-in_ok-take_records-in-Ok c =
    let a = c.args in
    let o = c.in-Ok.ensures in
    let run = opening-ran a.file.now a.largest.columns a.largest.rows a.cells.now a.labels.now _ _ _ o.taken o.cells refl in
    let t = c.in_ok-take_records-in-Ok.ensures in
    let f = c.finish.ensures in
    let g = gives-rendered a.file.now a.largest.columns a.largest.rows a.cells.now a.labels.now a.screen.now _ _ _ _ _ run t.state (sym t.stop) f.drawn f.cells f.screen in
    record { drawn = g.0; cells = g.1.0; labels = g.1.1.0; screen = g.1.1.1 }
