-- Document 01: 'Get_point (canvas alone, no store): 5; 2.'
use Rattle.std.specs.Prelude.{ℕ, zero, suc, [], ◌∷◌, Float, Option, Some, None}
use Rattle.view.specs.Point.{point_of, view_of}
use Rattle.grids.specs.Lists.{first}
use Rattle.grids.specs.Markers.{marker_of}
use Rattle.ledger.specs.Calls.{bad_point}
use Rattle.ledger.specs.Model.{bad_canvas}
use Rattle.ledger.specs.declared.state.Canvas.{Canvas}
use Rattle.ledger.specs.Pointed.{Pointed}
use Rattle.ledger.specs.Pointed as pointed

unfoldable pub point_refusal : Canvas → Float → Float → ℕ
point_refusal c x y = first ((bad_canvas c, 5) ∷ (bad_point x y, 2) ∷ [])

abbrev pub pointed_to : Option (ℕ × ℕ) → Pointed
pointed_to (Some (column, row)) = pointed.Dot column row
pointed_to None = pointed.None

abbrev pub pointed_unless : ℕ → Pointed → Pointed
pointed_unless zero answer = answer
pointed_unless (suc number) answer = pointed.Refused (suc number)

unfoldable pub pointed_on : Canvas → Float → Float → Pointed
pointed_on c x y = pointed_unless (point_refusal c x y) (pointed_to (point_of (view_of c.bounds c.columns c.rows (marker_of c.marker)) x y))
