-- One dot by the kind of grid, and a course whose cells are held: that one test shows them all held, and that its dots are the line's.
use Rattle.std.proofs.Common.{◌≡◌, ℕ, ◌+◌, ◌*◌, ◌/◌, ◌%◌, ◌^◌, ◌<◌, ◌≤◌, max, List, [], ◌∷◌, length, get_or, sym, refl, ap, ◌∙◌, subst, mul-le-mul_right, arith}
use Rattle.walk.specs.Line.{line_dots}
use Rattle.walk.specs.Walk.{Fits16}
use Rattle.walk.specs.Course.{course_of, course_dot, course_after, course_dots}
use Rattle.walk.specs.declared.bresenham.Ends.{Ends}
use Rattle.walk.specs.declared.bresenham.Dot.{Dot}
use Rattle.walk.specs.declared.course.Course.{Course}
use Rattle.walk.proofs.Tabulated.{length-tabulate, get_or-tabulate}
use Rattle.walk.proofs.CourseDots.{course-within, course-over}
use Rattle.grids.specs.declared.markers.Marker.TheVariants.{Braille, HalfBlock}
use Rattle.grids.specs.Markers.{by, dot_size}
use Rattle.grids.specs.Painting.{cells_held, inked_cell, braille_dot, plain_dot, half_dot}
use Rattle.grids.proofs.DotSizes.{plain_size}
use Rattle.grids.proofs.HalfCells.{half-paints}
use Rattle.grids.proofs.InkedCells.{braille-paints, plain-paints, braille-inked-dot, plain-inked-dot}
use Rattle.lines.specs.Painted.{dot_at, painted_by}
use Rattle.lines.specs.declared.painter.Painter.{Painter}

-- ---- one dot, where `end` is the number of cells held
module _ (p : Painter) (cells after : List ℕ) (end : ℕ) (column row : ℕ) (held : end ≡ cells_held cells p.grid.columns p.grid.rows) where
  pub braille-dot : p.grid.marker ≡ Braille → after ≡ braille_dot p.grid.columns end cells column row p.word → after ≡ painted_by p cells (dot_at column row ∷ [])
  braille-dot m h = h ∙ rw m (braille-paints p.grid.columns p.grid.rows cells column row p.word end held)

  pub plain-dot : dot_size p.grid.marker ≡ by 1 1 → after ≡ plain_dot p.grid.columns end cells column row p.word → after ≡ painted_by p cells (dot_at column row ∷ [])
  plain-dot one h = h ∙ plain-paints p.grid.marker one p.grid.columns p.grid.rows cells column row p.word end held

  pub half-dot : p.grid.marker ≡ HalfBlock → after ≡ half_dot p.grid.columns end cells column row p.word → after ≡ painted_by p cells (dot_at column row ∷ [])
  half-dot m h = h ∙ rw m (half-paints p.grid.columns p.grid.rows cells column row p.word end held)

-- for the functions that paint one dot
pub ruleset one_dot = (braille-dot, plain-dot, half-dot, plain_size)

-- ---- cells held, which need no test
abbrev pub braille_cell : ℕ → Dot → ℕ
braille_cell columns d = d.row / 4 * columns + d.column / 2

abbrev pub plain_cell : ℕ → Dot → ℕ
plain_cell columns d = d.row * columns + d.column

-- the cell of each dot of a course is held
abbrev pub AllHeld : Painter → (Dot → ℕ) → List ℕ → Course → Type 0
AllHeld p cell_of cells c = (k : ℕ) → k < c.count → cell_of (course_dot (course_after k c)) < cells_held cells p.grid.columns p.grid.rows

-- in a `for` over a course's dots, at its dot k
pub dot-held : (p : Painter) (cell_of : Dot → ℕ) (before between : List ℕ) (c : Course) (k : ℕ) (d : Dot) → AllHeld p cell_of before c → length between ≡ length before
    → (k < length (course_dots c c.count)) × (d ≡ get_or (course_dots c c.count) k d) → cell_of d < cells_held between p.grid.columns p.grid.rows
dot-held p cell_of before between c k d h same at =
    let l : k < c.count = rw (length-tabulate c.count (λ i. course_dot (course_after i c))) at at.0 in
    let e : d ≡ course_dot (course_after k c) = at.1 ∙ get_or-tabulate c.count k (λ i. course_dot (course_after i c)) d l in
    rw (same, ap cell_of e) (h k l)

pub in-store : (cells : List ℕ) (columns rows i : ℕ) → i < cells_held cells columns rows → i < length cells / 5
in-store cells columns rows i h = omega arith

-- a dot's bits and ink set in its cell, which is held
module _ (p : Painter) (cells after : List ℕ) (i bits : ℕ) (d : Dot) (l : i < cells_held cells p.grid.columns p.grid.rows) (h : after ≡ inked_cell cells i bits p.word) where
  in-canvas : i < p.grid.columns * p.grid.rows
  in-canvas = omega arith

  pub braille-set : p.grid.marker ≡ Braille → i ≡ braille_cell p.grid.columns d → bits ≡ 2 ^ (d.row % 4 * 2 + d.column % 2) → after ≡ painted_by p cells (d ∷ [])
  braille-set m j b = h ∙ rw (j, b, m) (braille-inked-dot p.grid.columns p.grid.rows cells d.column d.row p.word (rw j at in-canvas))

  pub plain-set : dot_size p.grid.marker ≡ by 1 1 → i ≡ plain_cell p.grid.columns d → bits ≡ 1 → after ≡ painted_by p cells (d ∷ [])
  plain-set one j b = h ∙ rw (j, b) (plain-inked-dot p.grid.marker one p.grid.columns p.grid.rows cells d.column d.row p.word (rw j at in-canvas))

-- all cells are held where that of the greatest column and row is
cell_below : (columns column row right low end : ℕ) → column ≤ right → row ≤ low → low * columns + right < end → row * columns + column < end
cell_below columns column row right low end h g l = omega (arith, mul-le-mul_right columns g)

pub braille-below : (columns column row right low end : ℕ) → column ≤ right → row ≤ low → low / 4 * columns + right / 2 < end → row / 4 * columns + column / 2 < end
braille-below columns column row right low end h g l = cell_below columns (column / 2) (row / 4) (right / 2) (low / 4) end (omega arith) (omega arith) l

-- a course whose ends have 16 bits
module _ (e : Ends) (x1 : e.x1 < 2 ^ 16) (y1 : e.y1 < 2 ^ 16) (x2 : e.x2 < 2 ^ 16) (y2 : e.y2 < 2 ^ 16) (c : Course) (w : c ≡ course_of e) where
  fits : Fits16 e
  fits = record { x1 = x1; y1 = y1; x2 = x2; y2 = y2 }

  module _ (p : Painter) (cells : List ℕ) (end right low last : ℕ) (held : end ≡ cells_held cells p.grid.columns p.grid.rows)
      (r : right ≡ max e.x1 e.x2) (b : low ≡ max e.y1 e.y2) (l : last < end) where
    pub braille-held : last ≡ low / 4 * p.grid.columns + right / 2 → AllHeld p (braille_cell p.grid.columns) cells c
    braille-held j k h =
        let d = course_dot (course_after k c) in
        let i = course-within e fits c k w h in
        subst (λ (n : ℕ). braille_cell p.grid.columns d < n) held
        (braille-below p.grid.columns d.column d.row right low end (rw r i.right) (rw b i.below) (rw j at l))

    pub plain-held : last ≡ low * p.grid.columns + right → AllHeld p (plain_cell p.grid.columns) cells c
    plain-held j k h =
        let d = course_dot (course_after k c) in
        let i = course-within e fits c k w h in
        subst (λ (n : ℕ). plain_cell p.grid.columns d < n) held
        (cell_below p.grid.columns d.column d.row right low end (rw r i.right) (rw b i.below) (rw j at l))

  -- ---- the whole course is the line
  pub course-same : line_dots e ≡ course_dots c c.count
  course-same = sym (course-over e fits c c.count c.count w refl refl)

  pub course-length : length (line_dots e) ≡ c.count
  course-length = ap length course-same ∙ length-tabulate c.count (λ k. course_dot (course_after k c))

-- for the function that paints a walk
pub ruleset courses = (braille-held, course-same, course-length)
