-- Document 01, 'From bounds to a dot', and a label's place ('Layers, labels, render').
use Rattle.std.specs.Prelude.{ℕ, ◌-◌, min, Bool, cond, not, ◌&&◌, ◌||◌, pos, nat_le, Float, Option, Some, None}
use Rattle.std.specs.Float.{binary64}
use Rattle.std.specs.Float.Ieee.{lt, le, of_int}
use Rattle.floats.specs.Arithmetic.{◌⊖◌, ◌⊗◌, ◌⊘◌, bits}
use Rattle.floats.specs.Truncation.{as_unsigned}
use Rattle.floats.specs.Methods.{abs_of}
use Rattle.floats.specs.Polyfills.{round_of, 1·0}
use Rattle.floats.specs.Domain.{in_domain}
use Rattle.walk.specs.declared.clip.Bounds.{Bounds}
use Rattle.grids.specs.declared.markers.Marker.{Marker}
use Rattle.grids.specs.Markers.{resolution_of}
use Rattle.view.specs.declared.point.View.{View}
use Rattle.view.specs.declared.point.Frame.{Frame}

abbrev pub whole : ℕ → Float
whole n = of_int binary64 (pos n)

-- 'A point outside the inclusive bounds ... gives no dot'
unfoldable pub outside_bounds : Bounds → Float → Float → Bool
outside_bounds b x y = ((lt x b.left || lt b.right x) || lt y b.bottom) || lt b.top y

-- 'bounds with width or height at most 0'
unfoldable pub flat_bounds : Bounds → Bool
flat_bounds b = le (b.right ⊖ b.left) (bits 0) || le (b.top ⊖ b.bottom) (bits 0)

-- `((x - left) * (self.resolution.0 - 1.0) / width).round() as usize`; 'a result above resolution - 1 becomes resolution - 1'
unfoldable pub scaled_of : Float → ℕ → Float → ℕ
scaled_of distance dots width = min (as_unsigned 64 (round_of (distance ⊗ (whole dots ⊖ 1·0) ⊘ width))) (dots - 1)

unfoldable pub point_of : View → Float → Float → Option (ℕ × ℕ)
point_of v x y =
    cond (outside_bounds v.bounds x y || flat_bounds v.bounds) None
    (Some (scaled_of (x ⊖ v.bounds.left) v.width (v.bounds.right ⊖ v.bounds.left), scaled_of (v.bounds.top ⊖ y) v.height (v.bounds.top ⊖ v.bounds.bottom)))

-- the same by a frame, which has the parts of the formula that no point changes
unfoldable pub frame_of : View → Frame
frame_of v = record {
  view = v;
  width = v.bounds.right ⊖ v.bounds.left;
  height = v.bounds.top ⊖ v.bounds.bottom;
  across = whole v.width ⊖ 1·0;
  down = whole v.height ⊖ 1·0;
  flat = flat_bounds v.bounds;
}

unfoldable pub scaled_by : Float → Float → ℕ → Float → ℕ
scaled_by distance steps dots width = min (as_unsigned 64 (round_of (distance ⊗ steps ⊘ width))) (dots - 1)

unfoldable pub spot_of : Frame → Float → Float → Option (ℕ × ℕ)
spot_of f x y =
    cond (outside_bounds f.view.bounds x y || f.flat) None
    (Some (scaled_by (x ⊖ f.view.bounds.left) f.across f.view.width f.width, scaled_by (f.view.bounds.top ⊖ y) f.down f.view.height f.height))

-- 'A label within the inclusive bounds goes to truncated (not rounded) columns and rows, by the formula in `render`':
-- `((label.x - left) * resolution.0 / width) as u16`, with width `(x_bounds[1] - x_bounds[0]).abs()` and resolution.0 `f64::from(canvas_area.width - 1)`
unfoldable pub truncated_of : Float → ℕ → Float → ℕ
truncated_of distance cells width = as_unsigned 16 (distance ⊗ whole (cells - 1) ⊘ abs_of width)

-- `l.x >= left && l.x <= right && l.y <= top && l.y >= bottom`
unfoldable pub inside_bounds : Bounds → Float → Float → Bool
inside_bounds b x y = ((le b.left x && le x b.right) && le y b.top) && le b.bottom y

-- the cell of a label's first byte in an area of columns by rows
unfoldable pub label_place : Bounds → ℕ → ℕ → Float → Float → Option (ℕ × ℕ)
label_place b columns rows x y =
    cond (inside_bounds b x y) (Some (truncated_of (x ⊖ b.left) columns (b.right ⊖ b.left), truncated_of (b.top ⊖ y) rows (b.top ⊖ b.bottom))) None

-- the view of a canvas: its bounds, and its resolution in dots
abbrev pub view_of : Bounds → ℕ → ℕ → Marker → View
view_of bounds columns rows marker = record { bounds = bounds; width = (resolution_of marker columns rows).columns; height = (resolution_of marker columns rows).rows }

-- a view on which the clamp to resolution - 1 never acts: bounds in the domain that have a width and a height, and 1 to 400 dots each way
unfoldable pub regular_view : View → Bool
regular_view v =
    ((in_domain v.bounds.left && in_domain v.bounds.right) && (in_domain v.bounds.bottom && in_domain v.bounds.top))
    && (not (flat_bounds v.bounds) && ((nat_le 1 v.width && nat_le v.width 400) && (nat_le 1 v.height && nat_le v.height 400)))
