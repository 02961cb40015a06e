-- The parts of the line, one after the other.
use Rattle.text.specs.Listing.{first_line}
use Rattle.text.proofs.WriterSteps.{next}
use Rattle.text.proofs.writer.Writer.first_line.Goals as goal

pub returns : goal.returns
unfolding first_line
returns c = next c.bytes.ensures (next (rw c.from.ensures at c.field.ensures) (next (rw c.from-2.ensures at c.field-2.ensures) (next c.bytes-2.ensures c.field-3.ensures)))
