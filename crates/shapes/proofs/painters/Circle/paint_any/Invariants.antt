-- After each turn the points of the angles passed are painted.
use Rattle.std.proofs.Common.{◌≤◌}
use Rattle.lines.specs.Painted.{Painted}
use Rattle.shapes.specs.Shapes.{angles}
use Rattle.shapes.proofs.painters.Circle.paint_any.Given as goal

abbrev pub invariant-loop-degree : goal.invariant-loop-degree
invariant-loop-degree l = record {
  few : l.painted ≤ l.degree;
  passed : Painted l.p l.initial.cells (angles l.p.view l.self.x l.self.y l.self.radius l.degree) l.painted l.cells;
}
