-- Invariant: the first rows are laid.
use Rattle.std.proofs.Common.{◌≡◌, ◌*◌, ◌/◌, ◌%◌}
use Rattle.ledger.specs.Screen.{layered}
use Rattle.ledger.specs.Model.{spot, picture_at, puts}
use Rattle.display.proofs.laying.lay_rows.Given as goal

abbrev pub invariant-loop-row : goal.invariant-loop-row
invariant-loop-row l =
    l.screen ≡ puts (λ k. spot l.a (k % l.c.columns) (k / l.c.columns)) (λ k. layered l.c.background (picture_at l.cells k)) l.initial.screen (l.row * l.c.columns)
