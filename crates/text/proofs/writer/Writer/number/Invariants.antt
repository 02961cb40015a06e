-- The digits that are left stand before those in the buffer. The measure is the place of the next one.
use Prim.Native.Nat.{◌+◌, ◌<◌, ◌≤◌, ◌^◌}
use mathlib.Core.Path.{◌≡◌}
use mathlib.Core.List.{[], ◌∷◌, ◌++◌}
use lib.ListN.{length, drop}
use Rattle.text.specs.Numbers.{digits}
use Rattle.text.proofs.writer.Writer.number.Given as goal

abbrev pub invariant-loop-n : goal.invariant-loop-n
invariant-loop-n g l = record {
  size : length l.buffer ≡ 21;
  place : l.first < 20;
  few : l.least ≤ l.first + 1;
  below : l.n < g.row.BASE ^ (l.first + 1);
  digits : digits 19 g.row.BASE l.fn.least l.fn.n ++ (l.end ∷ []) ≡ digits l.first g.row.BASE l.least l.n ++ drop (l.first + 1) l.buffer;
}

abbrev pub decreases-loop-n : goal.decreases-loop-n
decreases-loop-n g l = l.first
