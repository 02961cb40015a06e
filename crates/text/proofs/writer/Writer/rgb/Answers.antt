-- The parts of the sequence, one after the other.
use Rattle.text.specs.Terminal.{select_rgb}
use Rattle.text.proofs.WriterSteps.{next}
use Rattle.text.proofs.writer.Writer.rgb.Goals as goal

pub returns : goal.returns
unfolding select_rgb
returns c = next c.bytes.ensures (next (rw c.from.ensures at c.field.ensures) (next (rw c.from-2.ensures at c.field-2.ensures) (rw c.from-3.ensures at c.field-3.ensures)))
