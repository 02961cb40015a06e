-- Invariant: where the store has room and the area fits the screen, the first k labels are written and their cells counted.
use Rattle.std.proofs.Common.{◌≡◌, ◌*◌, ◌≤◌, false, length}
use Rattle.grids.specs.Lists.{foldl}
use Rattle.view.specs.Limits.{max_labels}
use Rattle.ledger.specs.Calls.{passes_edge, bad_screen}
use Rattle.ledger.specs.Labels.{held_labels}
use Rattle.ledger.specs.Model.{written_label, label_cells}
use Rattle.display.proofs.laying.write_labels.Given as goal

abbrev pub invariant-loop-k : goal.invariant-loop-k
invariant-loop-k l =
    max_labels * 44 ≤ length l.labels → passes_edge l.c.columns l.c.rows l.a ≡ false → bad_screen l.a l.initial.screen ≡ false
    → (l.count ≡ label_cells l.c (held_labels l.labels l.k)) × (l.screen ≡ foldl (written_label l.c l.a) l.initial.screen (held_labels l.labels l.k))
