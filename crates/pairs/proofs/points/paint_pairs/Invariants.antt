-- The points of the pairs so far are painted, at most one for each, so that their number fits.
use Rattle.std.proofs.Common.{◌≤◌, take}
use Rattle.lines.specs.Painted.{Painted}
use Rattle.shapes.specs.Shapes.{pair_dots}
use Rattle.pairs.proofs.points.paint_pairs.Given as goal

abbrev pub invariant-loop-i : goal.invariant-loop-i
invariant-loop-i g l = record {
  few : l.painted ≤ l.i;
  so_far : Painted l.p l.initial.cells (pair_dots l.p.view (take l.i (g.P.Pairs.listed l.pairs))) l.painted l.cells;
}
