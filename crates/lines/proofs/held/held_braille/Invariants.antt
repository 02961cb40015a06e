-- The dots so far are painted.
use Rattle.std.proofs.Common.{◌≡◌}
use Rattle.lines.specs.Painted.{painted_by}
use Rattle.lines.proofs.held.held_braille.Given as goal

abbrev pub invariant-loop-dot : goal.invariant-loop-dot
invariant-loop-dot l = l.cells ≡ painted_by l.p l.initial.cells l.yielded
