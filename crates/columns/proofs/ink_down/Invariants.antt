-- After k turns k cells are inked.
use mathlib.Core.Path.{◌≡◌}
use lib.ListN.{length}
use Rattle.columns.specs.Columns.{inked_down}
use Rattle.columns.proofs.ink_down.Given as goal

abbrev pub invariant-loop-k : goal.invariant-loop-k
invariant-loop-k l =
    (length l.cells ≡ length l.initial.cells) × (l.cells ≡ inked_down l.columns l.bits l.word l.initial.cells l.first l.k)
