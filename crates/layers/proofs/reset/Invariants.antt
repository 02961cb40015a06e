-- After i turns the first i cells are cleared; past the last that the store has there is nothing to do.
use mathlib.Core.Path.{◌≡◌}
use lib.ListN.{length}
use Rattle.grids.specs.Cells.{each_cell}
use Rattle.grids.specs.Layer.{cleared_cell}
use Rattle.layers.proofs.reset.Given as goal

abbrev pub invariant-loop-i : goal.invariant-loop-i
invariant-loop-i l =
    (length l.cells ≡ length l.initial.cells) × (l.cells ≡ each_cell cleared_cell l.initial.cells l.i)
