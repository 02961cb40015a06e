-- After so many turns the cells of so many columns are put, and the colours are those of the last; then the row's end.
use Prim.Native.Nat.{◌*◌}
use mathlib.Core.Path.{◌≡◌, refl}
use native.Mathlib.Omega.{arith}
use Rattle.text.specs.Screen.{cells_of}
use Rattle.text.specs.Terminal.{colour_before, shown_cells, shown_row}
use Rattle.text.proofs.TerminalSteps.{before-next, cells-next}
use Rattle.text.proofs.WriterSteps.{nothing, next}
use Rattle.text.proofs.writer.Writer.shown_row.Goals as goal

pub loop-column-init : goal.loop-column-init
unfolding shown_cells colour_before
loop-column-init c = record { foreground = refl; background = refl; wrote = nothing _ }

pub loop-column-preserved : goal.loop-column-preserved
loop-column-preserved c =
    let cells = cells_of c.args.screen.words.now in
    let first = c.args.row * c.args.screen.columns in
    let column = c.loop-column.column in
    let v = c.loop-column.invariant in
    let foreground = rw (c.from.ensures, c.from-2.ensures, c.from-in-loop-column.ensures) at c.colour.ensures in
    let background = rw (c.from.ensures, c.from-2.ensures, c.from-in-loop-column.ensures) at c.colour-in-loop-column.ensures in
    let symbol = rw (c.from.ensures, c.from-2.ensures, c.from-in-loop-column.ensures) at c.word.ensures in record {
      foreground = before-next cells.foreground first column foreground;
      background = before-next cells.background first column background;
      wrote = cells-next
          cells
          first
          column
          v.wrote
          v.foreground
          foreground
          c.change.ensures
          v.background
          background
          c.change-in-loop-column.ensures
          symbol
          c.symbol.ensures;
    }

pub returns : goal.returns
unfolding shown_row
returns c =
    let e : c.loop-column.column ≡ c.args.screen.columns = omega arith in
    next (rw e at c.loop-column.invariant.wrote) c.bytes.ensures
