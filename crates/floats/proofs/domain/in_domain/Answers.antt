-- The test is that of the law.
use lib.Ieee.{of_bits, neg}
use Rattle.floats.proofs.InDomain.{domain-test}
use Rattle.floats.proofs.domain.in_domain.Goals as goal

pub returns : goal.returns
unfolding of_bits neg
returns c = domain-test c.args.x
