-- The columns of the dots so far are painted: at most 2 ^ 32 dots each, so that their number fits.
use Rattle.std.proofs.Common.{◌*◌, ◌^◌, ◌≤◌, length}
use Rattle.lines.specs.Painted.{Painted, flat, column_to}
use Rattle.lines.proofs.fills.paint_fill.Given as goal

abbrev pub invariant-loop-dot : goal.invariant-loop-dot
invariant-loop-dot l =
    (l.painted ≤ length l.yielded * 2 ^ 32) × Painted l.p l.initial.cells (flat (column_to l.fill) l.yielded) l.painted l.cells
