-- So far no pair is bad.
use Rattle.std.proofs.Common.{◌≡◌, drop}
use Rattle.ledger.specs.Calls.{bad_pairs}
use Rattle.pairs.proofs.points.is_bad_pairs.Given as goal

abbrev pub invariant-loop-seen : goal.invariant-loop-seen
invariant-loop-seen g l = bad_pairs (g.P.Pairs.listed l.pairs) ≡ bad_pairs (drop l.seen (g.P.Pairs.listed l.pairs))
