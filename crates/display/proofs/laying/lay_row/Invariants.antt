-- Invariant: the first cells are laid.
use Rattle.std.proofs.Common.{◌≡◌, ◌*◌}
use Rattle.ledger.specs.Screen.{layered}
use Rattle.ledger.specs.Model.{picture_at, puts}
use Rattle.display.proofs.laying.lay_row.Given as goal

abbrev pub invariant-loop-i : goal.invariant-loop-i
invariant-loop-i l = l.screen ≡ puts (λ i. i) (λ i. layered l.background (picture_at l.cells i)) l.initial.screen (l.i * 8)
