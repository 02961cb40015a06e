-- The pairs so far are those of the bytes.
use Rattle.std.proofs.Common.{◌≡◌, length, take}
use Rattle.lists.specs.Lists.{pairs_at}
use Rattle.lists.proofs.read_pairs.Given as goal

abbrev pub invariant-loop-i : goal.invariant-loop-i
invariant-loop-i l = record {
  sixteen : length l.pairs ≡ 16;
  so_far : take l.i l.pairs ≡ pairs_at l.part l.start l.i;
}
