-- How many dots a shape has, and that it has at most 160,000 on a canvas of at most 200 by 100 cells:
-- a walk has no more dots than the larger side, and a filled column no more than the height.
use mathlib.Core.Path.{◌≡◌, refl}
use mathlib.Core.Bool.{Bool, true, false, cond, ◌||◌}
use mathlib.Core.List.{List, [], ◌∷◌}
use Prim.Native.Nat.{ℕ, zero, suc, ◌+◌, ◌-◌, ◌*◌, ◌≤◌, ◌<◌, max, zero-le}
use native.Mathlib.Nat.{mul-le-mul, mul-le-mul_right, le_trans, max-le, min-le_right}
use native.Mathlib.Omega.{arith}
use lib.Dec.{lit≤}
use lib.Ieee.{Float}
use lib.ListN.{length, length-append}
use Rattle.std.specs.Prelude.{Option, Some, None}
use Rattle.std.specs.List.{sum_by}
use Rattle.std.proofs.lemmas.List.Sums.{sum_by-append, sum_by-cons}
use Rattle.floats.specs.Arithmetic.{◌⊕◌}
use Rattle.floats.specs.Methods.{clamp_of}
use Rattle.walk.specs.declared.clip.Bounds.{Bounds}
use Rattle.walk.specs.declared.clip.Segment.{Segment}
use Rattle.walk.specs.declared.bresenham.Ends.{Ends}
use Rattle.walk.specs.declared.bresenham.Dot.{Dot}
use Rattle.walk.specs.Clip.{clip_of}
use Rattle.walk.specs.Tabulate.{tabulate}
use Rattle.walk.specs.Line.{apart, dx, dy, from_start, dot_after, dot_count, line_dots}
use Rattle.walk.proofs.Tabulated.{length-tabulate}
use Rattle.walk.proofs.LineDots.{length-line, Within, dot-within}
use Rattle.grids.specs.Markers.{dot_columns, dot_rows}
use Rattle.grids.specs.declared.markers.Marker.{Marker}
use Rattle.grids.proofs.DotSizes.{dot-size-le}
use Rattle.view.specs.Limits.{max_columns, max_rows, max_painted}
use Rattle.view.specs.Point.{outside_bounds, flat_bounds, scaled_of, point_of, view_of}
use Rattle.lines.specs.Painted.{flat, column_to}
use Rattle.shapes.specs.Shapes.{point_dots, dots_between, clipped_line, line_points, filled_dots, filled_between, clipped_fill, filled_points, segment, rectangle_points, angle_point, angles, circle_points, pair_dots}
use Rattle.shapes.specs.Drawing.{shape_dots}
use Rattle.walk.specs.declared.clip.Pair.{Pair}
use Rattle.view.specs.declared.point.View.{View}
use Rattle.shapes.specs.declared.painters.Shape.{Shape}
use Rattle.shapes.specs.declared.painters.Shape.TheVariants as shapes
use Rattle.shapes.proofs.PaintLists.{point-le}

-- ---- the painted numbers of document 01, 'Shapes'

-- the line between two dots
abbrev ends : ℕ → ℕ → ℕ → ℕ → Ends
ends x1 y1 x2 y2 = record { x1 = x1; y1 = y1; x2 = x2; y2 = y2 }

pub line-painted : (x1 y1 x2 y2 : ℕ) → length (dots_between (Some (x1, y1)) (Some (x2, y2))) ≡ max (apart x1 x2) (apart y1 y2) + 1
line-painted x1 y1 x2 y2 = length-line (ends x1 y1 x2 y2)

-- the dots of a column, to the row of the fill
abbrev column_count : ℕ → Dot → ℕ
column_count fill_row d = apart d.row fill_row + 1

pub filled-painted : (e : Ends) (column fill_row : ℕ) → length (filled_dots e (Some (column, fill_row))) ≡ sum_by (λ d. apart d.row fill_row + 1) (line_dots e)
filled-painted e column fill_row = go (line_dots e)
  where
    go : (dots : List Dot) → length (flat (column_to fill_row) dots) ≡ sum_by (column_count fill_row) dots
    go [] = refl
    go (d ∷ dots) = rw (length-append, sum_by-cons, length-tabulate, go dots)

pub rectangle-painted : (v : View) (x y width height : Float)
    → length (rectangle_points v x y width height)
    ≡ length (line_points v (segment x y x (y ⊕ height))) + length (line_points v (segment x (y ⊕ height) (x ⊕ width) (y ⊕ height)))
    + length (line_points v (segment (x ⊕ width) y (x ⊕ width) (y ⊕ height))) + length (line_points v (segment x y (x ⊕ width) y))
unfolding rectangle_points
rectangle-painted v x y width height = simp length-append

-- ---- a point stands inside the view

scaled-inside : (distance : Float) (dots : ℕ) (width : Float) → scaled_of distance dots width ≤ dots - 1
unfolding scaled_of
scaled-inside distance dots width = min-le_right _ (dots - 1)

abbrev Inside : View → Option (ℕ × ℕ) → Type 0
Inside v (Some (c, r)) = (c ≤ v.width - 1) × (r ≤ v.height - 1)
Inside v None = Unit {0}

found_inside : (v : View) (x y : Float) → Inside v (point_of v x y)
unfolding point_of
found_inside v x y = go (outside_bounds v.bounds x y || flat_bounds v.bounds) _ _ (scaled-inside _ v.width _) (scaled-inside _ v.height _)
  where
    go : (t : Bool) (c r : ℕ) → c ≤ v.width - 1 → r ≤ v.height - 1 → Inside v (cond t None (Some (c, r)))
    go true c r h k = tt
    go false c r h k = (h, k)

-- ---- a line and a filled line in a view

-- the larger side of a view, and its height; 1 for a side without dots
abbrev pub side : View → ℕ
side v = max (v.width - 1) (v.height - 1) + 1

abbrev pub upright : View → ℕ
upright v = v.height - 1 + 1

apart-le : (a b n : ℕ) → a ≤ n → b ≤ n → apart a b ≤ n
apart-le a b n h k = omega arith

walk-count : (v : View) (x1 y1 x2 y2 : ℕ) → Inside v (Some (x1, y1)) → Inside v (Some (x2, y2)) → dot_count (ends x1 y1 x2 y2) ≤ side v
walk-count v x1 y1 x2 y2 i j = larger _ _ (v.width - 1) (v.height - 1) (apart-le x1 x2 (v.width - 1) i.0 j.0) (apart-le y1 y2 (v.height - 1) i.1 j.1)
  where
    larger : (a b w h : ℕ) → a ≤ w → b ≤ h → max a b + 1 ≤ max w h + 1
    larger a b w h p q = omega arith

line-between : (v : View) (p q : Option (ℕ × ℕ)) → Inside v p → Inside v q → length (dots_between p q) ≤ side v
line-between v None q i j = zero-le
line-between v (Some (x1, y1)) None i j = zero-le
line-between v (Some (x1, y1)) (Some (x2, y2)) i j = rw (line-painted x1 y1 x2 y2) (walk-count v x1 y1 x2 y2 i j)

line-side : (v : View) (s : Segment) → length (line_points v s) ≤ side v
unfolding line_points
line-side v s = go (clip_of v.bounds s).line
  where
    go : (k : Option Segment) → length (clipped_line v k) ≤ side v
    go (Some t) = line-between v (point_of v t.x1 t.y1) (point_of v t.x2 t.y2) (found_inside v t.x1 t.y1) (found_inside v t.x2 t.y2)
    go None = zero-le

-- n entries of at most b
total_at_most : {A : Type 0} (f : A → ℕ) (n b : ℕ) (g : ℕ → A) → ((k : ℕ) → k < n → f (g k) ≤ b) → sum_by f (tabulate n g) ≤ n * b
total_at_most f zero b g h = zero-le
total_at_most f (suc n) b g h = rw (sum_by-append f (tabulate n g) (g n ∷ [])) (omega (arith, h n (omega arith), total_at_most f n b g (λ k l. h k (omega arith))))

filled-between : (v : View) (p q fill : Option (ℕ × ℕ)) → Inside v p → Inside v q → Inside v fill → length (filled_between p q fill) ≤ side v * upright v
unfolding line_dots
filled-between v None q fill i j f = zero-le
filled-between v (Some (x1, y1)) None fill i j f = zero-le
filled-between v (Some (x1, y1)) (Some (x2, y2)) None i j f = zero-le
filled-between v (Some (x1, y1)) (Some (x2, y2)) (Some (column, fill_row)) i j f =
    rw (filled-painted e column fill_row)
    (le_trans (total_at_most (column_count fill_row) (dot_count e) (upright v) (dot_after (from_start e)) short) (mul-le-mul_right (upright v) (walk-count v x1 y1 x2 y2 i j)))
  where
    e : Ends
    e = ends x1 y1 x2 y2

    short : (k : ℕ) → k < dot_count e → column_count fill_row (dot_after (from_start e) k) ≤ upright v
    short k h =
        let w : Within e (dot_after (from_start e) k) = dot-within e k (less k (max (dx e) (dy e)) h) in
        more _ (v.height - 1) (apart-le (dot_after (from_start e) k).row fill_row (v.height - 1) (le_trans w.below (max-le i.1 j.1)) f.1)
      where
        less : (a b : ℕ) → a < b + 1 → a ≤ b
        less a b l = omega arith

        more : (a b : ℕ) → a ≤ b → a + 1 ≤ b + 1
        more a b l = omega arith

filled-side : (v : View) (s : Segment) (fill_to : Float) → length (filled_points v s fill_to) ≤ side v * upright v
unfolding filled_points
filled-side v s fill_to = go (clip_of v.bounds s).line
  where
    go : (k : Option Segment) → length (clipped_fill v fill_to k) ≤ side v * upright v
    go (Some t) =
        let y = clamp_of fill_to v.bounds.bottom v.bounds.top in
        filled-between v (point_of v t.x1 t.y1) (point_of v t.x2 t.y2) (point_of v t.x1 y) (found_inside v t.x1 t.y1) (found_inside v t.x2 t.y2) (found_inside v t.x1 y)
    go None = zero-le

-- ---- the other shapes

rectangle-side : (v : View) (x y width height : Float) → length (rectangle_points v x y width height) ≤ 4 * side v
rectangle-side v x y width height =
    rw (rectangle-painted v x y width height)
    (four _ _ _ _ (side v)
    (line-side v (segment x y x (y ⊕ height)))
    (line-side v (segment x (y ⊕ height) (x ⊕ width) (y ⊕ height)))
    (line-side v (segment (x ⊕ width) y (x ⊕ width) (y ⊕ height)))
    (line-side v (segment x y (x ⊕ width) y)))
  where
    four : (a b c d n : ℕ) → a ≤ n → b ≤ n → c ≤ n → d ≤ n → a + b + c + d ≤ 4 * n
    four a b c d n p q r s = omega arith

pub circle-count : (v : View) (x y radius : Float) → length (circle_points v x y radius) ≤ 360
unfolding circle_points
circle-count v x y radius = go 360
  where
    go : (n : ℕ) → length (angles v x y radius n) ≤ n
    go zero = zero-le
    go (suc n) = rw (length-append (angles v x y radius n) (point_dots (angle_point v x y radius n))) (omega (arith, go n, point-le (angle_point v x y radius n) _ refl))

pub pairs-count : (v : View) (pairs : List Pair) → length (pair_dots v pairs) ≤ length pairs
unfolding pair_dots
pairs-count v pairs = go pairs
  where
    go : (ps : List Pair) → length (flat (λ p. point_dots (point_of v p.x p.y)) ps) ≤ length ps
    go [] = zero-le
    go (p ∷ ps) =
        rw (length-append (point_dots (point_of v p.x p.y)) (flat (λ p. point_dots (point_of v p.x p.y)) ps))
        (omega (arith, go ps, point-le (point_of v p.x p.y) _ refl))

-- ---- on a canvas

-- at most 400 dots each way
pub record Small (v : View) : Type 0 where
  pub side-small : side v ≤ 400
  pub upright-small : upright v ≤ 400

pub shape-few : (v : View) (s : Shape) → Small v → length (shape_dots v s) ≤ max_painted
unfolding shape_dots
shape-few v (shapes.Line s) m = le_trans (line-side v s) (le_trans m.side-small (lit≤ tt))
shape-few v (shapes.FilledLine s fill_to) m = le_trans (filled-side v s fill_to) (mul-le-mul m.side-small m.upright-small)
shape-few v (shapes.Rectangle x y width height) m = le_trans (rectangle-side v x y width height) (omega (arith, m.side-small))
shape-few v (shapes.Circle x y radius) m = le_trans (circle-count v x y radius) (lit≤ tt)

pub view-small : (bounds : Bounds) (columns rows : ℕ) (m : Marker) → columns ≤ max_columns → rows ≤ max_rows → Small (view_of bounds columns rows m)
view-small bounds columns rows m h k =
    let s = dot-size-le m in
    sides (columns * dot_columns m) (rows * dot_rows m) (mul-le-mul h s.0) (mul-le-mul k s.1)
  where
    sides : (w l : ℕ) → w ≤ 400 → l ≤ 400 → Small (record { bounds = bounds; width = w; height = l })
    sides w l p q = record { side-small = omega arith; upright-small = omega arith }
