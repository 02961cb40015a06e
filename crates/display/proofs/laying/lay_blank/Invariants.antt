-- Invariant: the first cells have the background.
use Rattle.std.proofs.Common.{◌≡◌}
use Rattle.ledger.specs.Screen.{layered}
use Rattle.ledger.specs.Model.{puts}
use Rattle.display.proofs.Rows.{nothing}
use Rattle.display.proofs.laying.lay_blank.Given as goal

abbrev pub invariant-loop-i : goal.invariant-loop-i
invariant-loop-i l = l.screen ≡ puts (λ i. i) (λ i. layered l.background nothing) l.initial.screen l.i
