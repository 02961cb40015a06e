-- The column from the lower row to the higher, as columns paints it.
use Rattle.std.proofs.Common.{rules, ◌≡◌, max}
use Rattle.lines.proofs.PaintedDots.{painted-column}
use Rattle.lines.proofs.fills.paint_column.Goals as goal

pub returns : goal.returns
returns c =
    let a = c.args in
    let high_is : c.max-high.result ≡ max a.row a.fill = search rules in
    rw c.from.ensures (painted-column a.p _ _ a.column a.row a.fill _ _ c.min-low.ensures high_is c.paint_rows.ensures)
