-- After each turn the dots above `row` are painted.
use Prim.Native.Nat.{◌+◌, ◌-◌, ◌≤◌}
use mathlib.Core.Path.{◌≡◌}
use Rattle.grids.specs.Painting.{paint_dots}
use Rattle.columns.specs.Columns.{column_dots}
use Rattle.columns.proofs.Strip.paint_each.Given as goal

abbrev pub invariant-loop-row : goal.invariant-loop-row
invariant-loop-row l =
    (l.row - l.self.low ≤ l.self.high + 1 - l.self.low) × (l.cells ≡ paint_dots l.self.grid.marker l.self.grid.columns l.self.grid.rows l.self.word l.initial.cells (column_dots l.self.column l.self.low (l.row - l.self.low)))
