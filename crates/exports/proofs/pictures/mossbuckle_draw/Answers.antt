-- A refused picture has a number above 0 and leaves the whole screen; the rest is found alone.
use native.Mathlib.Omega.{arith}
use mathlib.Core.Path.{sym, ◌∙◌}
use Rattle.exports.proofs.Onto.{drawn-part, screen-part, refused-kept}
use Rattle.refusals.proofs.Numbers.{numbered}
use Rattle.exports.proofs.pictures.mossbuckle_draw.Goals as goal

pub returns-in-Err-clause-shown : goal.returns-in-Err-clause-shown
returns-in-Err-clause-shown c =
    let a = c.args in
    let draw = rw c.in-Err.is at c.draw_picture-drawn.ensures in
    let on = drawn-part a.file.now a.cells.now a.labels.now a.screen.now a.widest a.highest c.min-n.ensures c.picture_size.ensures draw.drawn in
    let after = screen-part a.file.now a.cells.now a.labels.now a.screen.now a.widest a.highest c.min-n.ensures c.picture_size.ensures draw.screen in
    (λ e. absurd (omega (arith, numbered c.in-Err.fault.refusal)), λ some. after ∙ refused-kept a.file.now a.cells.now a.labels.now a.screen.now a.widest a.highest _ _ (sym on))
