-- What the code's functions give, in the words of the model: a call's answer, the stores and the screen after it, and where a draw paints.
use Rattle.std.specs.Prelude.{ℕ, zero, suc, List, [], length}
use Rattle.ledger.specs.Screen.{ScreenCell}
use Rattle.ledger.specs.Labels.{held_labels}
use Rattle.grids.specs.Markers.{marker_of}
use Rattle.view.specs.Point.{view_of}
use Rattle.ledger.specs.Calls.{Call, draw, points, dot, layer, marker, print, render, refusal, open_refusal}
use Rattle.ledger.specs.declared.state.Opening.{Opening}
use Rattle.ledger.specs.Ledger.{Reply, refused, painted, done, shown, unless}
use Rattle.ledger.specs.Model.{State, grid_of, opening_of, state_refusal, or_refusal, refusal_on, open_canvas, dots_on, label_cells, screen_after, state_after}
use Rattle.ledger.specs.declared.screen.Area.{Area}
use Rattle.lines.specs.declared.painter.Painter.{Painter}
use Rattle.ledger.specs.declared.state.Canvas.{Canvas}
use Rattle.ledger.specs.Answer.{Answer, Refused, Painted, Done, Rendered, Called}

-- the canvas with the lent stores
abbrev pub given : Canvas → List ℕ → List ℕ → State
given c cells labels = record { canvas = c; cells = cells; labels = labels }

-- a call's refusal by the canvas and the stores' lengths
abbrev pub refusal_by : Canvas → ℕ → ℕ → Call → ℕ
refusal_by c cells labels call = or_refusal (state_refusal c cells labels) (refusal (opening_of c) c.draws c.labels c.marker call)

-- ---- answers

abbrev pub accepted_answer : State → Call → Answer
accepted_answer s (draw shape colour) = Painted (length (dots_on s.canvas (draw shape colour)))
accepted_answer s (points pairs colour) = Painted (length (dots_on s.canvas (points pairs colour)))
accepted_answer s (dot column row colour) = Painted (length (dots_on s.canvas (dot column row colour)))
accepted_answer s layer = Done
accepted_answer s (marker m character) = Done
accepted_answer s (print x y text choice) = Done
accepted_answer s (render area words) = Rendered s.canvas.painted (label_cells s.canvas (held_labels s.labels s.canvas.labels))

abbrev pub answer_unless : ℕ → Answer → Answer
answer_unless zero answer = answer
answer_unless (suc number) answer = Refused (suc number)

unfoldable pub answer_on : State → Call → Answer
answer_on s c = answer_unless (refusal_on s c) (accepted_answer s c)

-- the canvas after a call, and its answer
abbrev pub called_on : State → Call → Called
called_on s c = record { canvas = (state_after s c).canvas; answer = answer_on s c }

-- the screen after a render, accepted or refused
abbrev pub screen_on : State → Area → List ℕ → List ℕ
screen_on s a words = unless (refusal_on s (render a words)) words (screen_after s a words)

-- the screen that a call leaves; only a render has one
abbrev pub screen_left : State → Call → List ℕ
screen_left s (draw shape colour) = []
screen_left s (points pairs colour) = []
screen_left s (dot column row colour) = []
screen_left s layer = []
screen_left s (marker m character) = []
screen_left s (print x y text choice) = []
screen_left s (render area words) = screen_on s area words

abbrev pub open_called : Opening → List ℕ → ℕ → Called
open_called o cells labels = record { canvas = open_canvas o cells labels; answer = answer_unless (open_refusal o (length cells) labels) Done }

-- an answer, with the screen's cells where it is a render's, as the promise has it
abbrev pub reply_of : Answer → (ℕ → ScreenCell) → Reply
reply_of (Refused number) cells = refused number
reply_of (Painted n) cells = painted n
reply_of Done cells = done
reply_of (Rendered n labels) cells = shown cells n

-- ---- steps of a draw

abbrev pub painter_of : Canvas → ℕ → Painter
painter_of c colour = record { view = view_of c.bounds c.columns c.rows (marker_of c.marker); grid = grid_of c; word = suc colour }
