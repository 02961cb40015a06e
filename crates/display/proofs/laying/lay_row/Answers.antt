-- Each step lays the next cells, in a part of their own.
use Rattle.std.proofs.Common.{◌≡◌, ℕ, ◌+◌, ◌-◌, ◌*◌, ◌/◌, List, length, take, drop, sym, ap, ◌∙◌, arith}
use borrow.Rule.Slice.PartMut.{put_mid}
use Rattle.ledger.specs.Screen.{layered}
use Rattle.ledger.specs.Model.{picture_at, puts}
use Rattle.ledger.proofs.ScreenCells.{length-puts}
use Rattle.display.proofs.Rows.{nothing, length-part, next-part, picture-part, picture-past}
use Rattle.display.proofs.laying.lay_row.Goals as goal

pub loop-i-preserved : goal.loop-i-preserved
loop-i-preserved c =
    let a = c.args in
    let l = c.loop-i in
    let i = l.i in
    let cells = a.cells.now in
    rw c.lay_eight.ensures
    (next-part a.background (λ j. picture_at cells j) (λ j. picture_at (take (i * 40 + 40 - i * 40) (drop (i * 40) cells)) j) a.screen.now l.screen (i * 24) (i * 24 + 24 - i * 24) (i * 8) 8 ((i + 1) * 8)
    (omega arith) (omega arith) (omega arith) (omega arith) l.invariant
    (λ j h. picture-part cells (i * 40) (i * 40 + 40 - i * 40) (i * 8) j (omega arith) (omega arith)))

pub returns : goal.returns
returns c =
    let a = c.args in
    let l = c.loop-i in
    let cells = a.cells.now in
    let eights : ℕ = length cells / 40 in
    let held : ℕ = length cells / 5 in
    let last : l.i ≡ eights = omega arith in
    let long = length-part cells (eights * 40) (length cells - eights * 40) (omega arith) in
    let screen : List ℕ = put_mid (eights * 24) (length l.screen - eights * 24) l.screen c.lay_cells.new.screen in
    let first : screen ≡ puts (λ i. i) (λ i. layered a.background (picture_at cells i)) a.screen.now held =
    rw c.lay_cells.ensures
    (next-part a.background (λ j. picture_at cells j) (λ j. picture_at (take (length cells - eights * 40) (drop (eights * 40) cells)) j) a.screen.now l.screen (eights * 24) (length l.screen - eights * 24) (l.i * 8)
    (length (take (length cells - eights * 40) (drop (eights * 40) cells)) / 5) held (omega arith) (omega (arith, long)) (omega arith) (omega (arith, long)) l.invariant
    (λ j h. picture-part cells (eights * 40) (length cells - eights * 40) (l.i * 8) j (omega arith) (omega arith))) in
    let size : length screen ≡ length a.screen.now = ap length first ∙ length-puts (λ i. i) (λ i. layered a.background (picture_at cells i)) a.screen.now held in
    let rest = length-part screen (held * 3) (length screen - held * 3) (omega arith) in
    rw c.lay_blank.ensures
    (next-part a.background (λ j. picture_at cells j) (λ j. nothing) a.screen.now screen (held * 3) (length screen - held * 3) held (length (take (length screen - held * 3) (drop (held * 3) screen)) / 3) (length a.screen.now / 3)
    (omega arith) (omega (arith, rest)) (omega arith) (omega (arith, rest)) first
    (λ j h. sym (picture-past cells (held + j) (omega arith))))
