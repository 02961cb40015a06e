-- Dots painted one after the other: one more point of a circle, and of pairs.
use Prim.Native.Nat.{ℕ, ◌+◌, ◌*◌, ◌≤◌, ◌<◌}
use mathlib.Core.Path.{◌≡◌, ap}
use mathlib.Core.List.{List, append-nil}
use native.Mathlib.Numerals.{add-one}
use native.Mathlib.Omega.{arith}
use lib.Ieee.{Float}
use lib.ListN.{length, take, get_or}
use lib.Seq.{take-suc}
use Rattle.std.specs.Prelude.{Option, Some, None}
use Rattle.floats.specs.Polyfills.{mul_add_of}
use Rattle.angles.specs.Angles.{cos_at, sin_at, angle_table}
use Rattle.angles.proofs.AnglePlaces.{angle-cos, angle-sin}
use Rattle.view.specs.Point.{point_of, frame_of, spot_of}
use Rattle.view.specs.declared.point.View.{View}
use Rattle.view.specs.declared.point.Frame.{Frame}
use Rattle.view.proofs.DotPlaces.{spot-point}
use Rattle.lines.specs.declared.painter.Painter.{Painter}
use Rattle.lines.proofs.PaintedDots.{painted-then, flat_append}
use Rattle.lines.specs.Painted.{Painted}
use Rattle.shapes.specs.Shapes.{point_dots, angle_point, angles, circle_points, pair_dots}
use Rattle.walk.specs.declared.clip.Pair.{Pair}

-- ---- points
pub point-le : (f : Option (ℕ × ℕ)) (n : ℕ) → n ≡ length (point_dots f) → n ≤ 1
point-le (Some (column, row)) n e = omega arith
point-le None n e = omega arith

-- one more point of a circle, by its angle's cosine and sine, and by the table of these
pub angle-next : (p : Painter) (x y radius : Float) (before between after : List ℕ) (k m n : ℕ) (frame : Frame) (u v : Float) (f : Option (ℕ × ℕ))
    → u ≡ mul_add_of radius (cos_at k) x → v ≡ mul_add_of radius (sin_at k) y → frame ≡ frame_of p.view → f ≡ spot_of frame u v
    → Painted p before (angles p.view x y radius k) m between → Painted p between (point_dots f) n after
    → Painted p before (angles p.view x y radius (k + 1)) (m + n) after
angle-next p x y radius before between after k m n frame u v f e g b i h w =
    rw add-one
    (painted-then p before between after (angles p.view x y radius k) (point_dots (angle_point p.view x y radius k)) m n h
    (rw (i, b, spot-point, e, g) at w))

pub table-cos : (k : ℕ) (t : List Float) (d radius x u : Float) → t ≡ angle_table → k < 360 → u ≡ mul_add_of radius (get_or t (k * 2) d) x → u ≡ mul_add_of radius (cos_at k) x
table-cos k t d radius x u a l e = rw (a, angle-cos k d l) at e

pub table-sin : (k : ℕ) (t : List Float) (d radius y v : Float) → t ≡ angle_table → k < 360 → v ≡ mul_add_of radius (get_or t (k * 2 + 1) d) y → v ≡ mul_add_of radius (sin_at k) y
table-sin k t d radius y v a l e = rw (a, angle-sin k d l) at e

pub circle-over : (v : View) (x y radius : Float) (k : ℕ) → k ≡ 360 → angles v x y radius k ≡ circle_points v x y radius
unfolding circle_points
circle-over v x y radius k e = ap (angles v x y radius) e

-- for the loops that end at the 360th angle
pub ruleset whole_circle = (circle-over)

pub pair-next : (p : Painter) (pairs : List Pair) (d : Pair) (before between after : List ℕ) (k m n : ℕ) → k < length pairs
    → Painted p before (pair_dots p.view (take k pairs)) m between
    → Painted p between (point_dots (point_of p.view (get_or pairs k d).x (get_or pairs k d).y)) n after
    → Painted p before (pair_dots p.view (take (k + 1) pairs)) (m + n) after
unfolding pair_dots
pair-next p pairs d before between after k m n l g h =
    rw (add-one, take-suc pairs k d l, flat_append, append-nil)
    (painted-then p before between after (pair_dots p.view (take k pairs)) (point_dots (point_of p.view (get_or pairs k d).x (get_or pairs k d).y)) m n g h)
