-- The ends of what is left of a line, the dots of a line and a filled line by them, and that a line has at most 65536 dots.
use Prim.Native.Nat.{ℕ, ◌+◌, ◌^◌, ◌≤◌, ◌<◌, max}
use mathlib.Core.Path.{◌≡◌, refl, sym, ap, ◌∙◌}
use mathlib.Core.Bool.{false}
use mathlib.Core.List.{List, [], ◌++◌}
use native.Mathlib.Omega.{arith}
use lib.Ieee.{Float}
use lib.ListN.{length}
use Rattle.std.specs.Prelude.{Option, Some, None}
use Rattle.floats.specs.Arithmetic.{◌⊕◌}
use Rattle.floats.specs.Methods.{clamp_of}
use Rattle.walk.specs.declared.clip.Segment.{Segment}
use Rattle.walk.specs.declared.clip.Clipped.{Clipped}
use Rattle.walk.specs.declared.bresenham.Ends.{Ends}
use Rattle.walk.specs.declared.bresenham.Dot.{Dot}
use Rattle.walk.specs.Clip.{clip_of}
use Rattle.walk.specs.Line.{apart, line_dots}
use Rattle.walk.proofs.Clipping.{any-side, accepted-ends}
use Rattle.walk.proofs.LineDots.{length-line}
use Rattle.view.specs.Point.{outside_bounds, point_of, frame_of, spot_of}
use Rattle.shapes.specs.Shapes.{dots_between, clipped_line, line_points, ends_between, clipped_ends, line_ends, filled_dots, filled_between, clipped_fill, filled_points, segment, rectangle_points}
use Rattle.view.specs.declared.point.View.{View}
use Rattle.view.specs.declared.point.Frame.{Frame}
use Rattle.lines.specs.declared.painter.Painter.{Painter}
use Rattle.view.proofs.DotPlaces.{Fits, point-fits, spot-point}
use Rattle.lines.proofs.PaintedDots.{painted-then}
use Rattle.lines.specs.Painted.{Painted}

-- ---- what `spot` found in the view's frame is the point's dot
pub found-is : (v : View) (frame : Frame) (x y : Float) {r found : Option (ℕ × ℕ)} → frame ≡ frame_of v → r ≡ spot_of frame x y → r ≡ found → point_of v x y ≡ found
found-is v frame x y e s g = rw (← spot-point v x y, ← e) (sym s ∙ g)

-- and what `spot_inside` found, of a point that is not outside
found_inside : (v : View) (frame : Frame) (x y : Float) {r found : Option (ℕ × ℕ)} → outside_bounds v.bounds x y ≡ false → frame ≡ frame_of v
    → (outside_bounds frame.view.bounds x y ≡ false → r ≡ spot_of frame x y) → r ≡ found → point_of v x y ≡ found
unfolding frame_of
found_inside v frame x y inside e s g = found-is v frame x y e (s (rw e inside)) g

-- ---- the ends of what is left of a line are not outside
module _ (v : View) (s : Segment) {kept : Clipped} {t : Segment} (c : kept ≡ clip_of v.bounds s) (some : kept.line ≡ Some t) where
  accepted : (outside_bounds v.bounds t.x1 t.y1 ≡ false) × (outside_bounds v.bounds t.x2 t.y2 ≡ false)
  unfolding outside_bounds
  accepted =
      let k = accepted-ends v.bounds s (rw c at some) in
      (any-side v.bounds t.x1 t.y1 ∙ k.0, any-side v.bounds t.x2 t.y2 ∙ k.1)

  module _ {frame : Frame} (e : frame ≡ frame_of v) {r found : Option (ℕ × ℕ)} where
    pub found_first : (outside_bounds frame.view.bounds t.x1 t.y1 ≡ false → r ≡ spot_of frame t.x1 t.y1) → r ≡ found → point_of v t.x1 t.y1 ≡ found
    found_first = found_inside v frame t.x1 t.y1 accepted.0 e

    pub found-second : (outside_bounds frame.view.bounds t.x2 t.y2 ≡ false → r ≡ spot_of frame t.x2 t.y2) → r ≡ found → point_of v t.x2 t.y2 ≡ found
    found-second = found_inside v frame t.x2 t.y2 accepted.1 e

-- ---- a line's dots, and a filled line's, by the ends
abbrev pub dots_of : Option (Float × Ends) → List Dot
dots_of None = []
dots_of (Some (x, e)) = line_dots e

abbrev pub filled_of : (Float → Option (ℕ × ℕ)) → Option (Float × Ends) → List Dot
filled_of row None = []
filled_of row (Some (x, e)) = filled_dots e (row x)

abbrev pub fill_row : View → Float → Float → Option (ℕ × ℕ)
fill_row v fill x = point_of v x (clamp_of fill v.bounds.bottom v.bounds.top)

pub line-by-ends : (v : View) (s : Segment) {r found : Option (Float × Ends)} → r ≡ line_ends v s → r ≡ found → line_points v s ≡ dots_of found
unfolding line_points line_ends
line-by-ends v s e g = go (clip_of v.bounds s).line ∙ ap dots_of (sym e ∙ g)
  where
    between : (x : Float) (p q : Option (ℕ × ℕ)) → dots_between p q ≡ dots_of (ends_between x p q)
    between x None q = refl
    between x (Some (x1, y1)) None = refl
    between x (Some (x1, y1)) (Some (x2, y2)) = refl

    go : (k : Option Segment) → clipped_line v k ≡ dots_of (clipped_ends v k)
    go None = refl
    go (Some t) = between t.x1 (point_of v t.x1 t.y1) (point_of v t.x2 t.y2)

pub filled-by-ends : (v : View) (s : Segment) (fill : Float) {r found : Option (Float × Ends)} → r ≡ line_ends v s → r ≡ found
    → filled_points v s fill ≡ filled_of (fill_row v fill) found
unfolding filled_points line_ends
filled-by-ends v s fill e g = go (clip_of v.bounds s).line ∙ ap (filled_of (fill_row v fill)) (sym e ∙ g)
  where
    between : (x : Float) (p q : Option (ℕ × ℕ)) → filled_between p q (fill_row v fill x) ≡ filled_of (fill_row v fill) (ends_between x p q)
    between x None q = refl
    between x (Some (x1, y1)) None = refl
    between x (Some (x1, y1)) (Some (x2, y2)) = refl

    go : (k : Option Segment) → clipped_fill v fill k ≡ filled_of (fill_row v fill) (clipped_ends v k)
    go None = refl
    go (Some t) = between t.x1 (point_of v t.x1 t.y1) (point_of v t.x2 t.y2)

-- for the functions that paint what was found
pub ruleset by_found = (found-is, line-by-ends, filled-by-ends)

-- ---- how many dots a line has, in a view of 16-bit sizes
between_le : (p q : Option (ℕ × ℕ)) → Fits p → Fits q → length (dots_between p q) ≤ 65536
between_le None q f g = omega arith
between_le (Some (x1, y1)) None f g = omega arith
between_le (Some (x1, y1)) (Some (x2, y2)) f g = rw (length-line (record { x1 = x1; y1 = y1; x2 = x2; y2 = y2 })) (larger (apart x1 x2) (apart y1 y2) (apart-le x1 x2 f.0 g.0) (apart-le y1 y2 f.1 g.1))
  where
    apart-le : (a b : ℕ) → a < 2 ^ 16 → b < 2 ^ 16 → apart a b ≤ 65535
    apart-le a b h k = omega arith

    larger : (a b : ℕ) → a ≤ 65535 → b ≤ 65535 → max a b + 1 ≤ 65536
    larger a b h k = omega arith

module _ (v : View) (wide : v.width < 2 ^ 16) (high : v.height < 2 ^ 16) where
  pub line-le : (s : Segment) (n : ℕ) → n ≡ length (line_points v s) → n ≤ 65536
  unfolding line_points
  line-le s n e = rw e (go (clip_of v.bounds s).line)
    where
      go : (k : Option Segment) → length (clipped_line v k) ≤ 65536
      go (Some t) = between_le (point_of v t.x1 t.y1) (point_of v t.x2 t.y2) (point-fits v wide high t.x1 t.y1) (point-fits v wide high t.x2 t.y2)
      go None = omega arith

-- for the sum of four lines
pub ruleset few_dots = (line-le)

-- ---- four lines one after the other
module _ (p : Painter) (x y width height : Float) (before one two three after : List ℕ) (a b c d : ℕ) where
  pub rectangle-painted : Painted p before (line_points p.view (segment x y x (y ⊕ height))) a one
      → Painted p one (line_points p.view (segment x (y ⊕ height) (x ⊕ width) (y ⊕ height))) b two
      → Painted p two (line_points p.view (segment (x ⊕ width) y (x ⊕ width) (y ⊕ height))) c three
      → Painted p three (line_points p.view (segment x y (x ⊕ width) y)) d after
      → Painted p before (rectangle_points p.view x y width height) (a + b + c + d) after
  unfolding rectangle_points
  rectangle-painted f g h i =
      let v = p.view in
      let left = line_points v (segment x y x (y ⊕ height)) in
      let far = line_points v (segment x (y ⊕ height) (x ⊕ width) (y ⊕ height)) in
      let right = line_points v (segment (x ⊕ width) y (x ⊕ width) (y ⊕ height)) in
      painted-then p before three after ((left ++ far) ++ right) (line_points v (segment x y (x ⊕ width) y)) (a + b + c) d
      (painted-then p before two three (left ++ far) right (a + b) c (painted-then p before one two left far a b f g) h) i
