-- The loop that counts words instead of cells: where it is after k turns, and that it paints a course whose dots have their cells at those words.
use Rattle.std.proofs.Common.{◌≡◌, ℕ, zero, suc, ◌+◌, ◌*◌, ◌/◌, ◌%◌, ◌^◌, ◌<◌, ◌≤◌, List, [], ◌∷◌, length, refl, ap, ◌∙◌, mul-le-mul_right, arith, length-set}
use Rattle.walk.specs.Course.{course_dot, course_after, course_dots}
use Rattle.walk.specs.declared.bresenham.Dot.{Dot}
use Rattle.walk.specs.declared.course.Course.{Course}
use Rattle.walk.proofs.CourseDots.{after_is, WholeAt}
use Rattle.grids.specs.Markers.{by, dot_size}
use Rattle.grids.specs.Painting.{cells_held}
use Rattle.grids.proofs.Words.{foldl-append}
use Rattle.grids.proofs.InkedCells.{ink-words}
use Rattle.lines.specs.Painted.{painted_by}
use Rattle.lines.specs.HeldWords.{word_after, word_set, words_set}
use Rattle.lines.specs.declared.painter.Painter.{Painter}
use Rattle.lines.proofs.CourseLoops.{AllHeld, plain_cell, in-store, plain-set}

-- where the loop is after k turns
abbrev pub AtTurn : ℕ → ℕ → ℕ → ℕ → ℕ → ℕ → ℕ → Type 0
AtTurn start step from slope k at place = (at ≡ start + k * step) × (place ≡ (from + k * slope) % 2 ^ 64)

length-words : (word : ℕ) (at : ℕ → ℕ) (cells : List ℕ) (n : ℕ) → length (words_set word at cells n) ≡ length cells
length-words word at cells zero = refl
length-words word at cells (suc n) = simp length-set (length-words word at cells n)

-- ---- a course on a grid of one dot a cell
module _ (p : Painter) (c : Course) where
  abbrev dot : ℕ → Dot
  dot k = course_dot (course_after k c)

  -- the first words of the cells of its dots
  abbrev pub AtDots : (ℕ → ℕ) → Type 0
  AtDots at = (k : ℕ) → k < c.count → at k ≡ plain_cell p.grid.columns (dot k) * 5

  module _ (f : c.column < 2 ^ 64) (g : c.row < 2 ^ 64) (whole : (k : ℕ) → k < c.count → WholeAt c k) where
    pub by-columns : c.right ≡ 2 ^ 48 → AtDots (word_after (c.column / 2 ^ 48 * 5) 5 (p.grid.columns * 5) c.row c.down)
    by-columns m k l = rw ((whole k l).0 m, ap (λ (s : Course). s.row) (after_is c f g k)) (omega arith)

    pub by_rows : (c.right ≡ 2 ^ 48 → ⊥) → AtDots (word_after (c.row / 2 ^ 48 * (p.grid.columns * 5)) (p.grid.columns * 5) 5 c.column c.right)
    by_rows m k l = rw ((whole k l).1 m, ap (λ (s : Course). s.column) (after_is c f g k)) (omega arith)

  module _ (cells : List ℕ) (held : AllHeld p (plain_cell p.grid.columns) cells c) (at : ℕ → ℕ) (w : AtDots at) where
    pub words_inside : (k : ℕ) → k < c.count → at k + 4 < length cells
    words_inside k l = rw (w k l) (omega (arith, in-store cells p.grid.columns p.grid.rows (plain_cell p.grid.columns (dot k)) (held k l)))

    words-painted : dot_size p.grid.marker ≡ by 1 1 → (n : ℕ) → n ≤ c.count → words_set p.word at cells n ≡ painted_by p cells (course_dots c n)
    words-painted one zero l = refl
    words-painted one (suc n) l =
        let between = words_set p.word at cells n in
        let i = plain_cell p.grid.columns (dot n) in
        let here : i < cells_held between p.grid.columns p.grid.rows = rw (length-words p.word at cells n) (held n l) in
        plain-set p between (word_set p.word between (at n)) i 1 (dot n) here
        (rw (w n l, ink-words between i 1 p.word (in-store between p.grid.columns p.grid.rows i here))) one refl refl
        ∙ ap (λ s. painted_by p s (dot n ∷ [])) (words-painted one n (omega arith))
        ∙ rw foldl-append

    pub words-over : dot_size p.grid.marker ≡ by 1 1 → (after : List ℕ) → after ≡ words_set p.word at cells c.count → after ≡ painted_by p cells (course_dots c c.count)
    words-over one after h = h ∙ words-painted one c.count (omega arith)

-- ---- the last step stays below 2 ^ 64, by the types alone
pub columns-fit : (column count : ℕ) → column < 2 ^ 64 → count < 2 ^ 32 → column / 2 ^ 48 * 5 + count * 5 < 2 ^ 64
columns-fit column count f g = omega arith

pub rows_fit : (row columns count : ℕ) → row < 2 ^ 64 → columns < 2 ^ 16 → count < 2 ^ 32 → row / 2 ^ 48 * (columns * 5) + count * (columns * 5) < 2 ^ 64
rows_fit row columns count f g h =
    let few : row / 2 ^ 48 + count ≤ 2 ^ 33 = omega arith in
    omega (arith, mul-le-mul_right columns few)
