-- A `for` over the dots of a line: after its last one they are all painted, or the columns from them; and one more column.
use Rattle.std.proofs.Common.{◌≡◌, ℕ, ◌+◌, List, [], ◌∷◌, ◌++◌, length, map, sym, refl, ap, ◌∙◌}
use Rattle.std.proofs.lemmas.List.{map-id}
use Rattle.walk.specs.Line.{line_dots}
use Rattle.walk.specs.Walk.{Fits16, walk_of, count_of, walk_dots}
use Rattle.walk.specs.Course.{course_of, course_dots}
use Rattle.walk.specs.declared.bresenham.Ends.{Ends}
use Rattle.walk.specs.declared.bresenham.Dot.{Dot}
use Rattle.walk.specs.declared.bresenham.Walk.{Walk}
use Rattle.walk.specs.declared.course.Course.{Course}
use Rattle.walk.proofs.ClosedFormula.{walks-line}
use Rattle.walk.proofs.LineDots.{length-line}
use Rattle.walk.proofs.CourseDots.{course-over}
use Rattle.lines.specs.Painted.{Painted, flat, painted_by}
use Rattle.lines.specs.declared.painter.Painter.{Painter}
use Rattle.lines.proofs.PaintedDots.{painted-then, flat-next}

-- the loop has yielded all of a list
abbrev pub Yielded : List Dot → List Dot → Type 0
Yielded xs all = (map (λ (d : Dot). d) xs ≡ all) × (length xs ≡ length all)

yielded-all : (xs all : List Dot) → Yielded xs all → xs ≡ all
yielded-all xs all h = sym (map-id xs) ∙ h.0

pub all-painted : (p : Painter) (before after : List ℕ) (xs all : List Dot) → after ≡ painted_by p before xs → Yielded xs all → after ≡ painted_by p before all
all-painted p before after xs all h y = h ∙ ap (painted_by p before) (yielded-all xs all y)

pub walk-painted : (p : Painter) (e : Ends) → Fits16 e → (w : Walk) (before after : List ℕ) (xs : List Dot) (n : ℕ) → w ≡ walk_of e → n ≡ count_of w → after ≡ painted_by p before xs
    → Yielded xs (walk_dots w (count_of w)) → Painted p before (line_dots e) n after
walk-painted p e f w before after xs n v c h y = (
  c ∙ ap count_of v ∙ (walks-line e f).0 ∙ sym (length-line e),
  all-painted p before after xs (walk_dots w (count_of w)) h y ∙ ap (λ (u : Walk). painted_by p before (walk_dots u (count_of u))) v ∙ ap (painted_by p before) (walks-line e f).1,
)

-- ---- the column from each
pub fill-next : (p : Painter) (f : Dot → List Dot) (before between after : List ℕ) (xs : List Dot) (d : Dot) (m n : ℕ) → Painted p before (flat f xs) m between → Painted p between (f d) n after
    → Painted p before (flat f (xs ++ (d ∷ []))) (m + n) after
fill-next p f before between after xs d m n g h = rw (flat-next f xs d) (painted-then p before between after (flat f xs) (f d) m n g h)

pub fill-painted : (p : Painter) (f : Dot → List Dot) (e : Ends) → Fits16 e → (c : Course) (before after : List ℕ) (xs : List Dot) (n : ℕ) → c ≡ course_of e
    → Painted p before (flat f xs) n after → Yielded xs (course_dots c c.count) → Painted p before (flat f (line_dots e)) n after
fill-painted p f e fits c before after xs n w h y = rw (yielded-all xs (course_dots c c.count) y ∙ course-over e fits c c.count c.count w refl refl) at h
