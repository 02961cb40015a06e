-- A turn of a circle's loop on a Braille grid with a regular view: a point inside has a dot, and a point that is not inside has none.
use Prim.Native.Nat.{ℕ, ◌+◌, ◌*◌, ◌<◌}
use mathlib.Core.Path.{◌≡◌, refl, sym, ◌∙◌}
use mathlib.Core.Bool.{true, false}
use mathlib.Core.List.{List, [], ◌∷◌}
use native.Mathlib.Nat.{add-zero}
use lib.Ieee.{Float}
use lib.ListN.{length, get_or}
use Rattle.std.specs.Prelude.{Option, Some, None}
use Rattle.floats.specs.Polyfills.{mul_add_of}
use Rattle.angles.specs.Angles.{cos_at, sin_at, angle_table}
use Rattle.angles.proofs.AnglePlaces.{angle-cos, angle-sin}
use Rattle.angles.proofs.AngleSizes.{cos-sized, sin-sized}
use Rattle.walk.specs.declared.bresenham.Dot.{Dot}
use Rattle.grids.specs.Painting.{cells_held, braille_dot}
use Rattle.view.specs.Point.{inside_bounds, point_of, frame_of, regular_view}
use Rattle.view.proofs.DotPlaces.{spot-point}
use Rattle.shapes.specs.Shapes.{point_dots, angles}
use Rattle.lines.specs.Painted.{Painted, painted_by}
use Rattle.shapes.specs.Drawing.{RegularBraille, CircleInDomain}
use Rattle.lines.specs.declared.painter.Painter.{Painter}
use Rattle.lines.proofs.CourseLoops.{braille-dot}
use Rattle.shapes.proofs.PaintLists.{angle-next, table-cos, table-sin}
use Rattle.shapes.proofs.InsideOrOutside.{point-number, not-inside-nowhere}

-- a dot painted in a loop that keeps the store's length, with the cells held counted before it
pub braille-painted : (p : Painter) (before between after : List ℕ) (end : ℕ) (d : Dot) → RegularBraille p → end ≡ cells_held before p.grid.columns p.grid.rows → length between ≡ length before
    → after ≡ braille_dot p.grid.columns end between d.column d.row p.word → after ≡ painted_by p between (d ∷ [])
braille-painted p before between after end d braille held same h = braille-dot p between after end d.column d.row (rw same held) braille.0 h

module _ (p : Painter) (x y radius : Float) (k : ℕ) (t : List Float) (e u w : Float) (a : t ≡ angle_table) (l : k < 360)
    (f : u ≡ mul_add_of radius (get_or t (k * 2) e) x) (g : w ≡ mul_add_of radius (get_or t (k * 2 + 1) e) y) where
  pub turn_inside : inside_bounds p.view.bounds (mul_add_of radius (cos_at k) x) (mul_add_of radius (sin_at k) y) ≡ true → inside_bounds p.view.bounds u w ≡ true
  turn_inside h = rw (f, g, a, angle-cos k e l, angle-sin k e l) h

  turn-nowhere : CircleInDomain x y radius → regular_view p.view ≡ true → inside_bounds p.view.bounds u w ≡ false → point_of p.view u w ≡ None
  turn-nowhere c r h =
      not-inside-nowhere p.view u w r
      (rw (f, a, angle-cos k e l) (point-number radius (cos_at k) x c.1.1 (cos-sized k l) c.0))
      (rw (g, a, angle-sin k e l) (point-number radius (sin_at k) y c.1.1 (sin-sized k l) c.1.0))
      h

  module _ (before between after : List ℕ) (m n : ℕ) (h : Painted p before (angles p.view x y radius k) m between) where
    found : (o : Option (ℕ × ℕ)) (i : ℕ) → point_of p.view u w ≡ o → Painted p between (point_dots o) i after → Painted p before (angles p.view x y radius (k + 1)) (m + i) after
    found o i q r =
        angle-next p x y radius before between after k m i (frame_of p.view) u w o (table-cos k t e radius x u a l f) (table-sin k t e radius y w a l g) refl (sym (spot-point p.view u w ∙ q)) h r

    pub turn-dot : (d : Dot) → n ≡ m + 1 → point_of p.view u w ≡ Some (d.column, d.row) → after ≡ painted_by p between (d ∷ []) → Painted p before (angles p.view x y radius (k + 1)) n after
    turn-dot d c q r = rw c (found (Some (d.column, d.row)) 1 q (refl, r))

    pub turn-none : CircleInDomain x y radius → regular_view p.view ≡ true → inside_bounds p.view.bounds u w ≡ false → n ≡ m → after ≡ between
        → Painted p before (angles p.view x y radius (k + 1)) n after
    turn-none domain regular q c r = rw (c ∙ sym (add-zero m)) (found None 0 (turn-nowhere domain regular q) (refl, r))
