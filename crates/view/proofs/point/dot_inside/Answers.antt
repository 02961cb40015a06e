-- The two ways out, by the laws of a point inside a regular view.
use Rattle.std.proofs.Common.{◌∙◌}
use Rattle.view.proofs.RegularView.{dot-found, dot-numbers}
use Rattle.view.proofs.point.dot_inside.Goals as goal

pub returns-then-across-down : goal.returns-then-across-down
returns-then-across-down c =
    let a = c.args in
    dot-found a.f a.x a.y (λ a b. c.from.ensures ∙ c.whole_inside.ensures a b) (λ a b. c.from-then-across-down.ensures ∙ c.whole_inside-then-across-down.ensures a b)

pub returns : goal.returns
returns c =
    let a = c.args in
    dot-numbers a.f a.x a.y c.if-across-down.false
