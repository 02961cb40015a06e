-- After each turn the points of the angles passed are painted: one inside has a dot, and one that is not inside has none, since it is no NaN. The store keeps its length, and so the number of cells held.
use Rattle.std.proofs.Common.{◌≡◌, true, sym, ◌∙◌, arith, rules}
use Rattle.view.specs.Point.{inside_bounds}
use Rattle.shapes.proofs.CircleTurns.{braille-painted, turn_inside, turn-dot, turn-none}
use Rattle.shapes.proofs.painters.Circle.paint_braille.Goals as goal
use Rattle.shapes.proofs.painters.Circle.paint_braille.Goals.{then-not-this, then-not-this-via-then-not-this, then-not-this-via-else-not-this+then-is_inside, else-not-this+else-is_inside}

pub loop-turn-preserved : goal.loop-turn-preserved
loop-turn-preserved g c =
    let a = c.args in
    let k = c.loop-turn.turn in
    let x = c.mul_add-x in
    let y = c.mul_add-y in
    let before = c.loop-turn.invariant in
    record {
      few = elim c.if-not-this.branch [ then-not-this w ↦ omega (arith, before.few) | else-not-this+else-is_inside w ↦ omega (arith, before.few) ];
      passed =
          elim c.if-not-this.branch [
            | then-not-this w ↦
                let inside : inside_bounds a.p.view.bounds x.result y.result ≡ true =
                elim w.then-not-this.branch [
                  | then-not-this-via-then-not-this w' ↦
                      turn_inside a.p a.self.x a.self.y a.self.radius k _ _ _ _ c.angle_table-table.ensures (omega arith) x.ensures y.ensures (c.requires.inside (search rules) k (omega arith))
                  | then-not-this-via-else-not-this+then-is_inside w' ↦ sym w'.is_inside.ensures ∙ w'.if-is_inside.true
                ] in
                turn-dot a.p a.self.x a.self.y a.self.radius k _ _ _ _ c.angle_table-table.ensures (omega arith) x.ensures y.ensures
                a.cells.now _ _ _ _ before.passed w.dot_inside-d.result w.painted-is
                (w.dot_inside-d.ensures a.p.view c.frame_of-frame.ensures c.requires.known.0.1 inside)
                (w.cells-is ∙ braille-painted a.p a.cells.now _ _ _ w.dot_inside-d.result c.requires.known.0 c.cells_held-end.ensures c.loop-turn.auto.cells w.paint_braille.ensures)
            | else-not-this+else-is_inside w ↦
                turn-none a.p a.self.x a.self.y a.self.radius k _ _ _ _ c.angle_table-table.ensures (omega arith) x.ensures y.ensures
                a.cells.now _ _ _ _ before.passed c.requires.known.1 c.requires.known.0.1 (sym w.is_inside.ensures ∙ w.if-is_inside.false) w.painted-is w.cells-is
          ];
    }
