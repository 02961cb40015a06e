-- A column has at most 2 ^ 32 dots, and there are fewer columns; the dots of the whole course are the line's.
use Rattle.std.proofs.Common.{◌^◌, ◌<◌, ◌≤◌, length, arith, length-append}
use Rattle.std.proofs.lemmas.Iterator.Consumers.{YieldsList-turn, YieldsList-end}
use Rattle.walk.specs.Walk.{Fits16}
use Rattle.walk.proofs.Tabulated.{length-tabulate}
use Rattle.walk.proofs.DotsAlong.{course-yields}
use Rattle.lines.specs.Painted.{column_to}
use Rattle.lines.proofs.PaintedDots.{column-le}
use Rattle.lines.proofs.DotLoops.{fill-next, fill-painted}
use Rattle.lines.proofs.fills.paint_fill.Goals as goal

pub overflow_add-painted : goal.overflow_add-painted
overflow_add-painted c =
    let l = c.loop-dot in
    let column_fits : c.paint_column-painted.result ≤ 2 ^ 32 = column-le c.args.fill c.in-Some.dot _ (rw c.from.ensures at c.paint_column-painted.ensures.0) (omega arith) (omega arith) in
    let few : length l.yielded < c.new.result.count =
    rw length-tabulate at (YieldsList-turn (course-yields c.new.result _ cc) l.yielded _ l.yielded_by _ _ c.in-Some.dot c.in-Some.is c.next.ensures.steps).0 in
    omega (arith, column_fits, c.new.type_inv)

pub loop-dot-preserved : goal.loop-dot-preserved
loop-dot-preserved c =
    let l = c.loop-dot in
    let column_fits : c.paint_column-painted.result ≤ 2 ^ 32 = column-le c.args.fill c.in-Some.dot _ (rw c.from.ensures at c.paint_column-painted.ensures.0) (omega arith) (omega arith) in (
      rw length-append (omega (arith, column_fits)),
      fill-next c.args.p (column_to c.args.fill) _ _ _ _ _ _ _ l.invariant.1 (rw c.from.ensures at c.paint_column-painted.ensures),
    )

pub returns : goal.returns
returns c =
    let fits : Fits16 c.args.e = record { x1 = omega arith; y1 = omega arith; x2 = omega arith; y2 = omega arith } in
    let l = c.loop-dot in
    fill-painted c.args.p (column_to c.args.fill) c.args.e fits _ _ _ _ _ c.new.ensures l.invariant.1
    (YieldsList-end (course-yields c.new.result _ cc) l.yielded _ l.yielded_by _ _ c.in-None.is c.next.ensures.steps)
