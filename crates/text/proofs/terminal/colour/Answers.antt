-- By the test for a colour above Reset.
use Rattle.std.proofs.Common.{arith}
use Rattle.std.proofs.lemmas.Grind.{common_steps}
use Rattle.text.specs.Terminal.{colour_of}
use Rattle.text.proofs.terminal.colour.Goals as goal

pub returns : goal.returns
unfolding colour_of
returns c = grind (arith, common_steps)
