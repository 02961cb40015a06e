-- The dot of a point: document 01, 'From bounds to a dot', and 'Get_point (canvas alone, no store): 5; 2.' A canvas given by its numbers, and the outcome as numbers.
use Rattle.std.specs.Prelude.{ℕ, Float}
use Rattle.walk.specs.declared.clip.Bounds.{Bounds}
use Rattle.view.specs.Limits.{reset}
use Rattle.ledger.specs.Model.{opened_canvas}
use Rattle.ledger.specs.PointCall.{pointed_on}
use Rattle.ledger.specs.declared.state.Canvas.{Canvas}
use Rattle.ledger.specs.Pointed.{Pointed, Refused, Dot, None}

-- a canvas as it is opened; the dot does not turn on character or background: 'absent: 0020, Reset'
abbrev pub canvas_with : ℕ → ℕ → Bounds → ℕ → Canvas
canvas_with columns rows bounds marker =
    opened_canvas (record { columns = columns; rows = rows; bounds = bounds; marker = marker; character = 0x20; background = reset })

abbrev pub point_at : ℕ → ℕ → Float → Float → Float → Float → ℕ → Float → Float → Pointed
point_at columns rows left right bottom top marker x y =
    pointed_on (canvas_with columns rows (record { left = left; right = right; bottom = bottom; top = top }) marker) x y

-- 0 for a dot, 255 for none, else the refusal's number
abbrev pub point_status : Pointed → ℕ
point_status (Refused number) = number
point_status (Dot column row) = 0
point_status None = 255

-- the dot; where there is none, column and row stay as they were
abbrev pub column_after : Pointed → ℕ → ℕ
column_after (Refused number) before = before
column_after (Dot column row) before = column
column_after None before = before

abbrev pub row_after : Pointed → ℕ → ℕ
row_after (Refused number) before = before
row_after (Dot column row) before = row
row_after None before = before

-- no refusal has the number 0 or 255
abbrev pub IsDot : Pointed → Type 0
IsDot (Refused number) = ⊥
IsDot (Dot column row) = Unit {0}
IsDot None = ⊥

abbrev pub IsNone : Pointed → Type 0
IsNone (Refused number) = ⊥
IsNone (Dot column row) = ⊥
IsNone None = Unit {0}
