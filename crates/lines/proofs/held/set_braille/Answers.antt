-- The cell of the dot is held, so that setting its bit and ink paints it.
use Rattle.std.proofs.Common.{ℕ, ◌<◌, sym, subst, ◌∙◌, one-mul, arith}
use Rattle.std.proofs.Math.Pow.{shl_exact}
use Rattle.grids.specs.Painting.{cells_held}
use Rattle.grids.proofs.InkedCells.{ink-part}
use Rattle.lines.proofs.CourseLoops.{in-store, braille-set}
use Rattle.lines.proofs.held.set_braille.Goals as goal

pub returns : goal.returns
returns c =
    let a = c.args in
    let here : c.flat_index-i.result < cells_held a.cells.now a.p.grid.columns a.p.grid.rows =
    subst (λ (n : ℕ). n < cells_held a.cells.now a.p.grid.columns a.p.grid.rows) (sym c.flat_index-i.ensures) c.requires.1 in
    braille-set a.p a.cells.now _ _ _ a.d here
    (ink-part a.cells.now _ _ _ (in-store a.cells.now a.p.grid.columns a.p.grid.rows _ here) c.ink.ensures)
    c.requires.0
    c.flat_index-i.ensures
    (shl_exact 1 _ 32 (omega arith) (omega arith) ∙ one-mul _)
