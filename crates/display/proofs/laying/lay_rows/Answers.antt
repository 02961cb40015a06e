-- The next row, laid in a part of its own.
use Rattle.std.proofs.Common.{◌≡◌, ℕ, ◌+◌, ◌-◌, ◌*◌, ◌/◌, ◌≤◌, length, take, drop, arith}
use Rattle.display.proofs.Rows.{length-part, row_in_screen, row_next}
use Rattle.display.proofs.laying.lay_rows.Goals as goal

pub loop-row-preserved : goal.loop-row-preserved
loop-row-preserved c =
    let a = c.args in
    let screen = c.loop-row.screen in
    let at : ℕ = c.spot_index-at.result * 3 in
    let k : ℕ = at + c.from-columns.result * 3 - at in
    let width : c.from-columns.result ≡ a.c.columns = c.from-columns.ensures in
    let r = row_in_screen a.c.columns a.c.rows a.a a.screen.now c.requires.0 c.requires.1 c.loop-row.row (omega arith) in
    let room : at + k ≤ length screen = omega (arith, r, c.spot_index-at.ensures.place, width, c.loop-row.auto.screen) in
    let long = length-part screen at k room in
    let cells : length (take k (drop at screen)) / 3 ≡ a.c.columns = omega (arith, long, width) in
    rw (c.lay_row.ensures, cells)
    (row_next a.c a.cells.now a.a a.screen.now c.loop-row.row at c.min-from.result k (c.min-end.result - c.min-from.result) screen
    (omega (arith, c.spot_index-at.ensures.place)) (rw (← width) c.min-from.ensures) (omega arith) room (rw (← width) (omega (arith, c.min-end.ensures))) c.loop-row.invariant)
