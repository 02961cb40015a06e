-- After so many turns so many bytes are put.
use Prim.Native.Nat.{◌+◌, ◌<◌, ◌^◌}
use mathlib.Core.Path.{◌≡◌}
use lib.ListN.{take}
use Rattle.text.specs.Bytes.{laid}
use Rattle.text.proofs.writer.Writer.bytes.Given as goal

abbrev pub invariant-loop-byte : goal.invariant-loop-byte
invariant-loop-byte l = record {
  list : l.fn.self.end + l.byte-index < 2 ^ 64 → l.out ≡ laid l.initial.out l.fn.self.end (take l.byte-index l.bytes);
  place : l.fn.self.end + l.byte-index < 2 ^ 64 → l.end ≡ l.fn.self.end + l.byte-index;
}
