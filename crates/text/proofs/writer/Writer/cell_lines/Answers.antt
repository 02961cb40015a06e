-- After k turns the lines of the first k cells are put.
use mathlib.Core.Path.{◌≡◌}
use native.Mathlib.Omega.{arith}
use native.Mathlib.Numerals.{add-one}
use Prim.Native.Nat.{◌*◌}
use Rattle.text.specs.Listing.{cell_lines}
use Rattle.text.proofs.Sizes.{has-columns, product-below}
use Rattle.text.proofs.WriterSteps.{nothing, next}
use Rattle.text.proofs.writer.Writer.cell_lines.Goals as goal

pub loop-k-init : goal.loop-k-init
unfolding cell_lines
loop-k-init c = nothing _

pub cell_line-requires : goal.cell_line-requires
cell_line-requires c =
    let a = c.args.screen in
    let e = rw (c.from.ensures, c.from-2.ensures) at c.loop-k-test.true in
    (has-columns a.columns a.rows c.loop-k.k e, omega (arith, product-below a.columns a.rows (omega arith) (omega arith), e))

pub loop-k-preserved : goal.loop-k-preserved
unfolding cell_lines
loop-k-preserved c = rw add-one (next c.loop-k.invariant c.cell_line.ensures)

pub returns : goal.returns
returns c =
    let a = c.args.screen in
    let e : c.loop-k.k ≡ a.columns * a.rows = omega (arith, rw (c.from.ensures, c.from-2.ensures) at c.loop-k.auto.k-end, rw (c.from.ensures, c.from-2.ensures) at c.loop-k-test.false) in
    rw e at c.loop-k.invariant
