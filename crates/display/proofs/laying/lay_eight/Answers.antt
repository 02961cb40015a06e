-- Eight blank cells by the law, others by what `lay_cells` ensures.
use Rattle.std.proofs.Common.{sym, refl, ap, ◌∙◌}
use Rattle.grids.specs.declared.layer.LayerCell.{LayerCell}
use Rattle.ledger.specs.Screen.{layered}
use Rattle.ledger.specs.Model.{picture_at}
use Rattle.ledger.proofs.Written.{puts-same}
use Rattle.display.proofs.Rows.{nothing, picture-nothing}
use Rattle.display.proofs.laying.lay_eight.Goals as goal

pub returns-then-is_blank : goal.returns-then-is_blank
returns-then-is_blank c =
    let a = c.args in
    let blank = picture-nothing a.cells.now (c.is_blank.ensures c.if-is_blank.true) in
    c.lay_blank.ensures
    ∙ rw c.requires.0
    (puts-same (λ i. i) (λ i. i) (λ i. layered a.background nothing) (λ i. layered a.background (picture_at a.cells.now i)) a.screen.now 8 (λ i h. refl)
    (λ i h old. ap (λ (p : LayerCell). layered a.background p old) (sym (blank i))))
