-- After so many turns the cells of so many columns are put, and the colours are those of the last.
use Prim.Native.Nat.{◌*◌}
use mathlib.Core.Path.{◌≡◌}
use Rattle.text.specs.Writer.{Wrote}
use Rattle.text.specs.Screen.{cells_of}
use Rattle.text.specs.Terminal.{colour_before, shown_cells}
use Rattle.text.proofs.writer.Writer.shown_row.Given as goal

abbrev pub invariant-loop-column : goal.invariant-loop-column
invariant-loop-column l =
    let cells = cells_of l.screen.words.now in
    let first = l.row * l.screen.columns in record {
      foreground : l.before.foreground ≡ colour_before cells.foreground first l.column;
      background : l.before.background ≡ colour_before cells.background first l.column;
      wrote : Wrote l.initial.self (shown_cells cells first l.column) l.self;
    }
