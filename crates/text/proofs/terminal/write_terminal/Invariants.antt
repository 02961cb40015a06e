-- After so many turns so many rows are put.
use Rattle.text.specs.Writer.{Wrote}
use Rattle.text.specs.Screen.{cells_of}
use Rattle.text.specs.Terminal.{shown_rows}
use Rattle.text.proofs.terminal.write_terminal.Given as goal

abbrev pub invariant-loop-row : goal.invariant-loop-row
invariant-loop-row l = Wrote l.initial.writer (shown_rows l.screen.columns (cells_of l.screen.words.now) l.row) l.writer
