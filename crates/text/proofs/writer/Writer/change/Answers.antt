-- By the test for the same colour.
use borrow.Author.Tests.{eq-eqb, ne_eqb}
use Rattle.text.specs.Terminal.{change_colour}
use Rattle.text.proofs.WriterSteps.{nothing}
use Rattle.text.proofs.writer.Writer.change.Goals as goal

pub returns-then-before-colour : goal.returns-then-before-colour
unfolding change_colour
returns-then-before-colour c = rw (ne_eqb _ _ c.if-before-colour.true) c.select.ensures

pub returns-else-before-colour : goal.returns-else-before-colour
unfolding change_colour
returns-else-before-colour c = rw (eq-eqb _ _ c.if-before-colour.false) (nothing _)
