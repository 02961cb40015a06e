-- After i turns the first i fours are merged. The symbol's word is worked out once, before the loop.
use Prim.Native.Nat.{◌*◌, ◌%◌, ◌^◌}
use mathlib.Core.Path.{◌≡◌}
use lib.ListN.{length}
use Rattle.grids.specs.Cells.{each_cell}
use Rattle.grids.specs.Layer.{merged_cell}
use Rattle.layers.proofs.merge_fours.Given as goal

abbrev pub invariant-loop-i : goal.invariant-loop-i
invariant-loop-i l =
    (length l.cells ≡ length l.initial.cells) × (l.cells ≡ each_cell (merged_cell l.marker (l.character % 2 ^ 21)) l.initial.cells (l.i * 4))
