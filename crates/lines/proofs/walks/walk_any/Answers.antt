-- The dots of the whole walk are the line's.
use Rattle.std.proofs.Common.{◌∙◌, arith}
use Rattle.std.proofs.lemmas.Iterator.Consumers.{YieldsList-end}
use Rattle.walk.specs.Walk.{Fits16}
use Rattle.walk.proofs.DotsAlong.{walk-yields}
use Rattle.lines.proofs.DotLoops.{walk-painted}
use Rattle.lines.proofs.walks.walk_any.Goals as goal

pub returns : goal.returns
returns c =
    let fits : Fits16 c.args.e = record { x1 = omega arith; y1 = omega arith; x2 = omega arith; y2 = omega arith } in
    let l = c.loop-dot in
    walk-painted c.args.p c.args.e fits _ _ _ _ _ c.new-walk.ensures (c.from.ensures ∙ c.count.ensures) l.invariant
    (YieldsList-end (walk-yields c.new-walk.result _ cc) l.yielded _ l.yielded_by _ _ c.in-None.is c.next.ensures.steps)
