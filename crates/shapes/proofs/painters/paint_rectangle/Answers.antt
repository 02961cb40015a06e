-- Four lines, one after the other; each has at most 65536 dots, so that their sum fits.
use Rattle.shapes.proofs.LineCases.{rectangle-painted}
use Rattle.shapes.proofs.painters.paint_rectangle.Goals as goal

pub returns : goal.returns
returns c =
    let a = c.args in
    rectangle-painted a.p a.x a.y a.width a.height _ _ _ _ _ _ _ _ _
    (rw c.segment.ensures at c.paint_line-a.ensures) (rw c.segment-2.ensures at c.paint_line-b.ensures)
    (rw c.segment-3.ensures at c.paint_line-c.ensures) (rw c.segment-4.ensures at c.paint_line-d.ensures)
