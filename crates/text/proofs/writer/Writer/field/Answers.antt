-- The number in base 10.
use Rattle.text.specs.Numbers.{decimal, field}
use Rattle.text.proofs.writer.Writer.field.Goals as goal

pub returns : goal.returns
unfolding decimal field
returns c = c.number.ensures
