-- Inside the part or past its end.
use Rattle.std.proofs.Common.{◌≡◌, ◌+◌, ◌-◌, ◌<◌, length, sym, ap, ◌∙◌, arith, add-zero}
use Rattle.form.specs.Fields.{little}
use Rattle.form.proofs.Numbers.{whole, cut, little-part, little-zeros}
use Rattle.form.proofs.fields.bytes_at.Goals as goal
use Rattle.form.proofs.fields.bytes_at.Goals.{else-at-part-via-then-at-part+else-part-at, else-at-part-via-else-at-part}

pub returns-then-part-at : goal.returns-then-part-at
returns-then-part-at g c =
    let a = c.args in
    let n : a.at + g.row.N - a.at ≡ g.row.N = omega arith in
    let e = rw n at c.copy_from_slice.ensures.after in
    ap (λ xs. little xs 0 g.row.N) e ∙ rw add-zero at (little-part a.part.now a.at 0 g.row.N g.row.N (omega arith)) ∙ sym (whole a.part.now a.at g.row.N (omega arith))

pub returns-else-at-part : goal.returns-else-at-part
returns-else-at-part g c =
    let a = c.args in
    let past : length a.part.now < a.at + g.row.N =
    elim c.else-at-part.branch [ else-at-part-via-then-at-part+else-part-at w ↦ omega arith | else-at-part-via-else-at-part w ↦ omega arith ] in
    little-zeros g.row.N 0 g.row.N ∙ sym (cut a.part.now a.at g.row.N past)
