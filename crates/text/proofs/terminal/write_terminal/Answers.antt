-- After so many turns so many rows are put.
use mathlib.Core.Path.{◌≡◌}
use native.Mathlib.Numerals.{add-one}
use Rattle.std.proofs.Common.{rules, arith}
use Rattle.text.specs.Screen.{cells_of}
use Rattle.text.specs.Terminal.{shown_rows, terminal}
use Rattle.text.proofs.Lengths.{terminal-fits}
use Rattle.text.proofs.WriterSteps.{nothing, next, from_start}
use Rattle.text.proofs.terminal.write_terminal.Goals as goal

pub loop-row-init : goal.loop-row-init
unfolding shown_rows
loop-row-init c = nothing _

pub loop-row-preserved : goal.loop-row-preserved
unfolding shown_rows
loop-row-preserved c = rw add-one (next c.loop-row.invariant c.shown_row.ensures)

pub returns : goal.returns
unfolding terminal
returns c =
    let a = c.args in
    let e : c.loop-row.row ≡ a.screen.rows = omega arith in
    let fits = terminal-fits a.screen.columns a.screen.rows (cells_of a.screen.words.now) (omega arith) (omega arith) in
    let w = from_start c.new-writer.ensures.start (rw e at c.loop-row.invariant) fits in
    (search (rules, w.0), omega (arith, w.1))
