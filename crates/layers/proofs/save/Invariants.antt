-- After i turns the first i cells are saved.
use Prim.Native.Nat.{◌%◌, ◌^◌}
use mathlib.Core.Path.{◌≡◌}
use Rattle.grids.specs.Cells.{each_cell}
use Rattle.grids.specs.Layer.{saved_cell}
use Rattle.layers.proofs.save.Given as goal

abbrev pub invariant-loop-i : goal.invariant-loop-i
invariant-loop-i l =
    l.cells ≡ each_cell (saved_cell l.grid.marker (l.character % 2 ^ 21)) l.initial.cells l.i
