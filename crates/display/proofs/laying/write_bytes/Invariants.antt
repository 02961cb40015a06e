-- Invariant: the first bytes are written.
use Rattle.std.proofs.Common.{◌≡◌, ◌+◌}
use Rattle.ledger.specs.Model.{puts}
use Rattle.ledger.proofs.Written.{byte_of}
use Rattle.display.proofs.laying.write_bytes.Given as goal

abbrev pub invariant-loop-i : goal.invariant-loop-i
invariant-loop-i l = l.screen ≡ puts (λ i. l.at + i) (byte_of l.bytes l.word) l.initial.screen l.i
