-- The first line, then the cells'.
use Rattle.std.proofs.Common.{rules, arith}
use Rattle.text.specs.Screen.{cells_of}
use Rattle.text.specs.Listing.{listing}
use Rattle.text.proofs.Lengths.{listing-fits}
use Rattle.text.proofs.WriterSteps.{next, from_start}
use Rattle.text.proofs.listing.write_listing.Goals as goal

pub returns : goal.returns
unfolding listing
returns c =
    let a = c.args in
    let fits = listing-fits a.screen.columns a.screen.rows a.painted (cells_of a.screen.words.now) (omega arith) (omega arith) in
    let w = from_start c.new-writer.ensures.start (next c.first_line.ensures c.cell_lines.ensures) fits in
    (search (rules, w.0), omega (arith, w.1))
