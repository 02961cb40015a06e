-- After the turns to i the first i cells are merged, if those before the first turn were.
use Prim.Native.Nat.{ℕ, ◌%◌, ◌^◌}
use mathlib.Core.Path.{◌≡◌}
use mathlib.Core.List.{List}
use lib.ListN.{length}
use Rattle.grids.specs.Cells.{each_cell}
use Rattle.grids.specs.Layer.{merged_cell}
use Rattle.layers.proofs.merge_rest.Given as goal

abbrev pub invariant-loop-i : goal.invariant-loop-i
invariant-loop-i l =
    (length l.cells ≡ length l.initial.cells)
    × ((start : List ℕ) → l.initial.cells ≡ each_cell (merged_cell l.marker (l.character % 2 ^ 21)) start l.from → l.cells ≡ each_cell (merged_cell l.marker (l.character % 2 ^ 21)) start l.i)
