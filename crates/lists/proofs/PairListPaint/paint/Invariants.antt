-- The points of the pairs so far are painted: at most one for each, so that their number fits.
use Rattle.std.proofs.Common.{◌*◌, ◌≤◌, min}
use Rattle.shapes.specs.Shapes.{pair_dots}
use Rattle.lines.specs.Painted.{Painted}
use Rattle.lists.specs.Lists.{pairs_at}
use Rattle.lists.proofs.PairListPaint.paint.Given as goal

abbrev pub invariant-loop-block : goal.invariant-loop-block
invariant-loop-block l = record {
  few : l.painted ≤ 16 * l.block;
  so_far : Painted l.p l.initial.cells (pair_dots l.p.view (pairs_at l.self.part.now 2 (min (16 * l.block) l.self.count))) l.painted l.cells;
}
