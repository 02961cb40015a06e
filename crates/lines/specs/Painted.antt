-- What painting dots leaves in the store, and the dots of a filled line: document 01, 'Shapes'.
use Rattle.std.specs.Prelude.{ℕ, ◌+◌, min, ◌≡◌, List, [], ◌∷◌, ◌++◌, length}
use Rattle.walk.specs.Tabulate.{tabulate}
use Rattle.walk.specs.Line.{apart}
use Rattle.walk.specs.declared.bresenham.Dot.{Dot}
use Rattle.grids.specs.Painting.{paint_dots}
use Rattle.lines.specs.declared.painter.Painter.{Painter}

abbrev pub dot_at : ℕ → ℕ → Dot
dot_at column row = record { column = column; row = row }

-- the lists of f of each element, one after the other
abbrev pub flat : {A B : Type 0} → (A → List B) → List A → List B
flat f [] = []
flat f (x ∷ xs) = f x ++ flat f xs

abbrev pub painted_by : Painter → List ℕ → List Dot → List ℕ
painted_by p cells dots = paint_dots p.grid.marker p.grid.columns p.grid.rows p.word cells dots

-- the dots, of which there are n, painted over `before` give `after`
abbrev pub Painted : Painter → List ℕ → List Dot → ℕ → List ℕ → Type 0
Painted p before dots n after = (n ≡ length dots) × (after ≡ painted_by p before dots)

-- 'FilledLine: from each dot of the walk its column to the dot row of `fill_to_y` clamped to the bounds, both ends in.'
abbrev pub column_to : ℕ → Dot → List Dot
column_to fill_row d = tabulate (apart d.row fill_row + 1) (λ k. dot_at d.column (min d.row fill_row + k))
