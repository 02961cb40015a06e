-- After k turns the lines of the first k cells are put.
use Rattle.text.specs.Writer.{Wrote}
use Rattle.text.specs.Screen.{cells_of}
use Rattle.text.specs.Listing.{cell_lines}
use Rattle.text.proofs.writer.Writer.cell_lines.Given as goal

abbrev pub invariant-loop-k : goal.invariant-loop-k
invariant-loop-k l = Wrote l.initial.self (cell_lines l.screen.columns (cells_of l.screen.words.now) l.k) l.self
