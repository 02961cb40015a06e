-- Document 01, 'Shapes': the dots of each shape, in the order in which the Rust paints them.
use Rattle.std.specs.Prelude.{ℕ, zero, suc, List, [], ◌∷◌, ◌++◌, Float, Option, Some, None}
use Rattle.floats.specs.Arithmetic.{◌⊕◌}
use Rattle.floats.specs.Methods.{clamp_of, to_radians_of}
use Rattle.floats.specs.Polyfills.{mul_add_of, sin_of, cos_of}
use Rattle.walk.specs.declared.clip.Segment.{Segment}
use Rattle.walk.specs.declared.bresenham.Ends.{Ends}
use Rattle.walk.specs.declared.bresenham.Dot.{Dot}
use Rattle.walk.specs.Clip.{clip_of}
use Rattle.walk.specs.Line.{line_dots}
use Rattle.view.specs.Point.{whole, point_of}
use Rattle.lines.specs.Painted.{flat, dot_at, column_to}
use Rattle.walk.specs.declared.clip.Pair.{Pair}
use Rattle.view.specs.declared.point.View.{View}

-- a point is one dot, or none
abbrev pub point_dots : Option (ℕ × ℕ) → List Dot
point_dots (Some (column, row)) = dot_at column row ∷ []
point_dots None = []

-- a line: the walk between the dots of its clipped ends; 'max(dx, dy) + 1 or 0'
abbrev pub dots_between : Option (ℕ × ℕ) → Option (ℕ × ℕ) → List Dot
dots_between None q = []
dots_between (Some (x1, y1)) None = []
dots_between (Some (x1, y1)) (Some (x2, y2)) = line_dots (record { x1 = x1; y1 = y1; x2 = x2; y2 = y2 })

abbrev pub clipped_line : View → Option Segment → List Dot
clipped_line v (Some s) = dots_between (point_of v s.x1 s.y1) (point_of v s.x2 s.y2)
clipped_line v None = []

unfoldable pub line_points : View → Segment → List Dot
line_points v s = clipped_line v (clip_of v.bounds s).line

-- the first end's x and the dots of both ends of what is left of a line
abbrev pub ends_between : Float → Option (ℕ × ℕ) → Option (ℕ × ℕ) → Option (Float × Ends)
ends_between x None q = None
ends_between x (Some (x1, y1)) None = None
ends_between x (Some (x1, y1)) (Some (x2, y2)) = Some (x, record { x1 = x1; y1 = y1; x2 = x2; y2 = y2 })

abbrev pub clipped_ends : View → Option Segment → Option (Float × Ends)
clipped_ends v (Some s) = ends_between s.x1 (point_of v s.x1 s.y1) (point_of v s.x2 s.y2)
clipped_ends v None = None

unfoldable pub line_ends : View → Segment → Option (Float × Ends)
line_ends v s = clipped_ends v (clip_of v.bounds s).line

-- 'FilledLine: from each dot of the walk its column to the dot row of `fill_to_y` clamped to the bounds, both ends in.'
abbrev pub filled_dots : Ends → Option (ℕ × ℕ) → List Dot
filled_dots e None = []
filled_dots e (Some (column, fill_row)) = flat (column_to fill_row) (line_dots e)

abbrev pub filled_between : Option (ℕ × ℕ) → Option (ℕ × ℕ) → Option (ℕ × ℕ) → List Dot
filled_between None q f = []
filled_between (Some (x1, y1)) None f = []
filled_between (Some (x1, y1)) (Some (x2, y2)) f = filled_dots (record { x1 = x1; y1 = y1; x2 = x2; y2 = y2 }) f

abbrev pub clipped_fill : View → Float → Option Segment → List Dot
clipped_fill v fill_to (Some s) =
    filled_between (point_of v s.x1 s.y1) (point_of v s.x2 s.y2) (point_of v s.x1 (clamp_of fill_to v.bounds.bottom v.bounds.top))
clipped_fill v fill_to None = []

unfoldable pub filled_points : View → Segment → Float → List Dot
filled_points v s fill_to = clipped_fill v fill_to (clip_of v.bounds s).line

-- 'Rectangle: the four lines in the Rust's order': left, the side at y + height, the side at x + width, and the side at y
abbrev pub segment : Float → Float → Float → Float → Segment
segment x1 y1 x2 y2 = record { x1 = x1; y1 = y1; x2 = x2; y2 = y2 }

unfoldable pub rectangle_points : View → Float → Float → Float → Float → List Dot
rectangle_points v x y width height =
    ((line_points v (segment x y x (y ⊕ height))
    ++ line_points v (segment x (y ⊕ height) (x ⊕ width) (y ⊕ height)))
    ++ line_points v (segment (x ⊕ width) y (x ⊕ width) (y ⊕ height)))
    ++ line_points v (segment x y (x ⊕ width) y)

-- 'Circle: 360 angles': `self.radius.mul_add(radians.cos(), self.x)`, and sin with y; one dot for each angle inside
abbrev pub angle_point : View → Float → Float → Float → ℕ → Option (ℕ × ℕ)
angle_point v x y radius angle =
    point_of v (mul_add_of radius (cos_of (to_radians_of (whole angle))) x) (mul_add_of radius (sin_of (to_radians_of (whole angle))) y)

abbrev pub angles : View → Float → Float → Float → ℕ → List Dot
angles v x y radius zero = []
angles v x y radius (suc k) = angles v x y radius k ++ point_dots (angle_point v x y radius k)

unfoldable pub circle_points : View → Float → Float → Float → List Dot
circle_points v x y radius = angles v x y radius 360

-- Points: 'one per dot inside', by the pairs' numbers
unfoldable pub pair_dots : View → List Pair → List Dot
pair_dots v pairs = flat (λ p. point_dots (point_of v p.x p.y)) pairs
