-- A line that is cut goes on with one cut less; the other ways are the rule's, by `clipping`.
use Rattle.std.proofs.Common.{not, ap, ◌∙◌, arith}
use Rattle.walk.proofs.Clipping.{cut_again}
use Rattle.walk.proofs.clip.clip_outside.Goals as goal

pub loop-cuts-preserved : goal.loop-cuts-preserved
loop-cuts-preserved c =
    let l = c.loop-cuts in
    cut_again _ _ _ _ _ _ c.sides_of-first.ensures c.sides_of-second.ensures _ _ c.has_side.ensures c.has_side-in-loop-cuts.ensures (ap not c.if-not-clipped.false) _ c.side_in_common.ensures c.if-side_in_common.false _ _ (omega arith) c.cut-s.ensures ∙ l.invariant
