-- The fields of the line, one after the other.
use Rattle.text.specs.Listing.{cell_line}
use Rattle.text.proofs.WriterSteps.{next}
use Rattle.text.proofs.writer.Writer.cell_line.Goals as goal

pub returns : goal.returns
unfolding cell_line
returns c =
    next (rw c.from-width.ensures at c.field.ensures)
    (next (rw c.from-width.ensures at c.field-2.ensures)
    (next (rw (c.from.ensures, c.word.ensures) at c.hexadecimal_field.ensures)
    (next (rw (c.from-2.ensures, c.word-2.ensures) at c.field-3.ensures) (rw (c.from-3.ensures, c.word-3.ensures) at c.field-4.ensures))))
