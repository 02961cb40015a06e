-- The dots of any shape, and where the dots of a circle need fewer tests.
use Rattle.std.specs.Prelude.{◌≡◌, true, List, Float}
use Rattle.floats.specs.Domain.{in_domain}
use Rattle.walk.specs.declared.bresenham.Dot.{Dot}
use Rattle.grids.specs.declared.markers.Marker.TheVariants.{Braille}
use Rattle.view.specs.Point.{regular_view}
use Rattle.lines.specs.declared.painter.Painter.{Painter}
use Rattle.shapes.specs.Shapes.{line_points, filled_points, rectangle_points, circle_points}
use Rattle.view.specs.declared.point.View.{View}
use Rattle.shapes.specs.declared.painters.Shape.{Shape}
use Rattle.shapes.specs.declared.painters.Shape.TheVariants.{Line, FilledLine, Rectangle, Circle}

unfoldable pub shape_dots : View → Shape → List Dot
shape_dots v (Line s) = line_points v s
shape_dots v (FilledLine s fill_to) = filled_points v s fill_to
shape_dots v (Rectangle x y width height) = rectangle_points v x y width height
shape_dots v (Circle x y radius) = circle_points v x y radius

-- a Braille grid with a view on which no clamp acts
abbrev pub RegularBraille : Painter → Type 0
RegularBraille p = (p.grid.marker ≡ Braille) × (regular_view p.view ≡ true)

-- a circle's centre and radius in the domain: its points are then no NaN, so that each is inside the bounds or outside them
abbrev pub CircleInDomain : Float → Float → Float → Type 0
CircleInDomain x y radius = (in_domain x ≡ true) × ((in_domain y ≡ true) × (in_domain radius ≡ true))
