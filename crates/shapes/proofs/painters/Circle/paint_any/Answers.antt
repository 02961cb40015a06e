-- After each turn the points of the angles passed are painted.
use Rattle.std.proofs.Common.{◌≤◌, ap, ◌∙◌, arith}
use Rattle.floats.specs.Polyfills.{mul_add_of, sin_of, cos_of}
use Rattle.floats.specs.Methods.{to_radians_of}
use Rattle.shapes.proofs.PaintLists.{point-le, angle-next}
use Rattle.shapes.proofs.painters.Circle.paint_any.Goals as goal

pub loop-degree-preserved : goal.loop-degree-preserved
loop-degree-preserved c =
    let a = c.args in
    let at_most_one_lem : c.paint_found-painted.result ≤ 1 = point-le c.spot-found.result _ c.paint_found-painted.ensures.0 in
    let radians = c.to_radians-radians.ensures ∙ ap to_radians_of c.from.ensures in
    let x = c.mul_add-x.ensures ∙ ap (λ z. mul_add_of a.self.radius z a.self.x) (c.cos.ensures ∙ ap cos_of radians) in
    let y = c.mul_add-y.ensures ∙ ap (λ z. mul_add_of a.self.radius z a.self.y) (c.sin.ensures ∙ ap sin_of radians) in
    record {
      few = omega (arith, at_most_one_lem, c.loop-degree.invariant.few);
      passed =
          angle-next a.p a.self.x a.self.y a.self.radius _ _ _ c.loop-degree.degree _ _ _ _ _ _ x y c.frame_of-frame.ensures c.spot-found.ensures
          c.loop-degree.invariant.passed c.paint_found-painted.ensures;
    }
