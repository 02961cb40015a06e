-- The points of the pairs so far are painted: at most one for each, so that their number fits.
use Rattle.std.proofs.Common.{◌*◌, arith}
use Rattle.lists.proofs.PairBlocks.{blocks, list-next, pairs-before, pairs-after}
use Rattle.lists.proofs.PairListPaint.paint.Goals as goal

pub loop-block-preserved : goal.loop-block-preserved
loop-block-preserved c =
    let a = c.args in
    let l = c.loop-block in
    let before = pairs-before a.self.count l.block c.div_ceil-block-end.ensures c.loop-block-test.true in
    let after = pairs-after a.self.count l.block c.div_ceil-block-end.ensures c.loop-block-test.true in
    record {
      few = grind (arith, blocks);
      so_far = rw (after, ← c.min-count.ensures)
          (list-next a.p a.self.part.now 2 (16 * l.block) _ _ l.cells _ _ _ _ c.read_pairs-pairs.ensures (rw before at l.invariant.so_far) c.paint_pairs-painted.ensures);
    }
