-- The digest stays below its modulus.
use Rattle.std.proofs.Common.{◌<◌}
use Rattle.large.proofs.digest_of.Given as goal

abbrev pub invariant-loop-word : goal.invariant-loop-word
invariant-loop-word l = l.digest < 4294967291
