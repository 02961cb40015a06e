-- After each turn the points of the angles passed are painted.
use Rattle.std.proofs.Common.{◌≤◌}
use Rattle.lines.specs.Painted.{Painted}
use Rattle.shapes.specs.Shapes.{angles}
use Rattle.shapes.proofs.painters.Circle.paint_braille.Given as goal

abbrev pub invariant-loop-turn : goal.invariant-loop-turn
invariant-loop-turn g l = record {
  few : l.painted ≤ l.turn;
  passed : Painted l.p l.initial.cells (angles l.p.view l.self.x l.self.y l.self.radius l.turn) l.painted l.cells;
}
