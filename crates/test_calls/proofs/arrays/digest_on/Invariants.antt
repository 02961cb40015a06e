-- The digest stays below its modulus.
use Rattle.std.proofs.Common.{◌<◌}
use Rattle.test_calls.proofs.arrays.digest_on.Given as goal

abbrev pub invariant-loop-word : goal.invariant-loop-word
invariant-loop-word l = l.digest < 4294967291
