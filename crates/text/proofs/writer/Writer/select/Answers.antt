-- The parts of the sequence, one after the other, by the test for Reset.
use borrow.Author.Tests.{lt-ltb, le-ltb}
use Rattle.text.specs.Terminal.{select_colour}
use Rattle.text.proofs.WriterSteps.{next}
use Rattle.text.proofs.writer.Writer.select.Goals as goal

pub returns-then-colour-lt-RESET : goal.returns-then-colour-lt-RESET
unfolding select_colour
returns-then-colour-lt-RESET c = rw (lt-ltb _ _ c.if-colour-lt-RESET.true) (next c.bytes.ensures c.rgb.ensures)

pub returns-else-colour-lt-RESET : goal.returns-else-colour-lt-RESET
unfolding select_colour
returns-else-colour-lt-RESET c = rw (le-ltb _ _ c.if-colour-lt-RESET.false) (next c.bytes.ensures c.bytes-else-colour-lt-RESET.ensures)
