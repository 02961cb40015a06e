-- On a grid of one dot a cell: where the cell of the greatest column and row is held, all are, and each step goes a whole column or a whole row.
use Rattle.std.proofs.Common.{sym, ◌∙◌, arith, ltb-true}
use Rattle.std.proofs.lemmas.Bool.{and_parts}
use Rattle.walk.specs.Walk.{Fits16}
use Rattle.walk.proofs.CourseDots.{course-whole}
use Rattle.grids.proofs.DotSizes.{plain_size}
use Rattle.lines.proofs.CourseLoops.{plain-held}
use Rattle.lines.proofs.walks.paint_walk.Goals as goal

pub held_plain-requires : goal.held_plain-requires
held_plain-requires c =
    let a = c.args in
    let course = c.new-course-then-is_plain-last_plain in
    let fits : Fits16 a.e = record { x1 = omega arith; y1 = omega arith; x2 = omega arith; y2 = omega arith } in
    let u = and_parts _ _ c.if-is_plain-last_plain.true in (
      plain_size _ (sym c.is_plain.ensures ∙ u.0),
      plain-held a.e fits.x1 fits.y1 fits.x2 fits.y2 course.result course.ensures a.p a.cells.now _ _ _ _ c.cells_held-end.ensures
          (c.from-right.ensures ∙ c.max.ensures) (c.from-low.ensures ∙ c.max-2.ensures) (ltb-true _ _ u.1) c.flat_index-last_plain.ensures,
      λ k. course-whole a.e fits course.result k course.ensures,
    )
