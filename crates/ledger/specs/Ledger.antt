-- Document 01, 'The ledger': fed the arguments of an accepted opening and of the calls after it, and nothing of the canvas or the stores.
use Rattle.std.specs.Prelude.{ℕ, zero, suc, ◌+◌, ◌-◌, ◌*◌, ◌/◌, ◌%◌, Bool, true, false, cond, List, [], ◌∷◌, ◌++◌, map, Float, length, Option, Some, None}
use Rattle.grids.specs.Lists.{last_word}
use Rattle.grids.specs.Markers.{marker_of}
use Rattle.grids.specs.Dots.{Inked, layer_sets}
use Rattle.grids.specs.Painting.{inked}
use Rattle.grids.specs.declared.layer.LayerCell.{LayerCell}
use Rattle.view.specs.Point.{label_place, view_of}
use Rattle.lines.specs.Painted.{flat}
use Rattle.ledger.specs.Screen.{ScreenCell, cell_on, layered, Placed, labelled, in_area}
use Rattle.ledger.specs.Calls.{Call, draw, points, dot, layer, marker, print, render, refusal, call_dots}
use Rattle.ledger.specs.declared.state.Opening.{Opening}
use Rattle.ledger.specs.declared.screen.Area.{Area}

-- 'layers (marker, character, list of coloured dots)'
pub record Layer : Type 0 where
  pub marker : ℕ
  pub character : ℕ
  pub dots : List Inked

-- a label as it was printed
pub record Label : Type 0 where
  pub x : Float
  pub y : Float
  pub text : List ℕ
  pub choice : Option ℕ

-- 'It holds layers ..., labels, and the number of accepted draws and dots'; the last layer stands by itself, and `closed` says that a render was accepted
pub record Ledger : Type 0 where
  pub before : List Layer
  pub last : Layer
  pub labels : List Label
  pub draws : ℕ
  pub closed : Bool

abbrev pub layers : Ledger → List Layer
layers l = l.before ++ (l.last ∷ [])

abbrev pub empty_layer : ℕ → ℕ → Layer
empty_layer m character = record { marker = m; character = character; dots = [] }

-- 'It starts with one empty layer of the opening's marker.'
abbrev pub opened : Opening → Ledger
opened o = record { before = []; last = empty_layer o.marker o.character; labels = []; draws = 0; closed = false }

-- ---- what the ledger shows

-- what each layer sets in the cell i; the last one that sets a word decides it
abbrev pub layer_at : ℕ → ℕ → Layer → LayerCell
layer_at columns i l = layer_sets (marker_of l.marker) l.character columns l.dots i

unfoldable pub picture_of : ℕ → List Layer → ℕ → LayerCell
picture_of columns ls i = record {
  symbol = last_word (λ l. (layer_at columns i l).symbol) ls;
  foreground = last_word (λ l. (layer_at columns i l).foreground) ls;
  background = last_word (λ l. (layer_at columns i l).background) ls;
}

abbrev pub choice_word : Option ℕ → ℕ
choice_word None = 0
choice_word (Some colour) = suc colour

abbrev pub placed_of : Opening → Label → Placed
placed_of o l = record { place = label_place o.bounds o.columns o.rows l.x l.y; word = choice_word l.choice; text = l.text }

abbrev pub area_cell : Opening → List Layer → List Label → ℕ → ℕ → ScreenCell → ScreenCell
area_cell o ls labels column row old = labelled (map (placed_of o) labels) column row (layered o.background (picture_of o.columns ls (row * o.columns + column)) old)

-- a cell of the screen after the render; outside the area it stays
unfoldable pub screen_cell : Opening → List Layer → List Label → Area → List ℕ → ℕ → ScreenCell
screen_cell o ls labels a words j =
    cond (in_area o.columns o.rows a j) (area_cell o ls labels (j % a.columns - a.x) (j / a.columns - a.y) (cell_on words j)) (cell_on words j)

-- 'Painted counts every `paint`': all dots that the layers hold
unfoldable pub painted_in : Ledger → ℕ
painted_in l = length (flat (λ y. y.dots) (layers l))

-- ---- a call

abbrev pub refusal_in : Opening → Ledger → Call → ℕ
refusal_in o l c = cond l.closed 6 (refusal o l.draws (length l.labels) l.last.marker c)

-- 'A draw or dot adds its dots to the last layer, repeated and ignored ones too; how many is its painted number.'
abbrev pub with_dots : Ledger → List Inked → Ledger
with_dots l dots = record {
  before = l.before;
  last = record { marker = l.last.marker; character = l.last.character; dots = l.last.dots ++ dots };
  labels = l.labels;
  draws = suc l.draws;
  closed = l.closed;
}

-- 'Layer begins an empty one of that marker, Marker one of the new'
abbrev pub with_layer : Ledger → ℕ → ℕ → Ledger
with_layer l m character = record { before = layers l; last = empty_layer m character; labels = l.labels; draws = l.draws; closed = l.closed }

-- 'Print adds a label.'
abbrev pub with_label : Ledger → Label → Ledger
with_label l label = record { before = l.before; last = l.last; labels = l.labels ++ (label ∷ []); draws = l.draws; closed = l.closed }

abbrev pub closed_ledger : Ledger → Ledger
closed_ledger l = record { before = layers l; last = empty_layer l.last.marker l.last.character; labels = l.labels; draws = l.draws; closed = true }

-- the dots that a call adds, with their ink
abbrev pub ink_of : Call → ℕ
ink_of (draw shape colour) = colour
ink_of (points pairs colour) = colour
ink_of (dot column row colour) = colour
ink_of layer = 0
ink_of (marker m character) = 0
ink_of (print x y text choice) = 0
ink_of (render area words) = 0

abbrev pub added_dots : Opening → ℕ → Call → List Inked
added_dots o m c = inked (ink_of c) (call_dots (view_of o.bounds o.columns o.rows (marker_of m)) c)

abbrev pub accepted : Opening → Ledger → Call → Ledger
accepted o l (draw shape colour) = with_dots l (added_dots o l.last.marker (draw shape colour))
accepted o l (points pairs colour) = with_dots l (added_dots o l.last.marker (points pairs colour))
accepted o l (dot column row colour) = with_dots l (added_dots o l.last.marker (dot column row colour))
accepted o l layer = with_layer l l.last.marker l.last.character
accepted o l (marker m character) = with_layer l m character
accepted o l (print x y text choice) = with_label l (record { x = x; y = y; text = text; choice = choice })
accepted o l (render area words) = closed_ledger l

-- ---- answers: a refusal's number, a painted number, done, or the screen's cells with the painted count

pub data Reply : Type 0 where
  refused : ℕ → Reply
  painted : ℕ → Reply
  done : Reply
  shown : (ℕ → ScreenCell) → ℕ → Reply

abbrev pub reply : Opening → Ledger → Call → Reply
reply o l (draw shape colour) = painted (length (added_dots o l.last.marker (draw shape colour)))
reply o l (points pairs colour) = painted (length (added_dots o l.last.marker (points pairs colour)))
reply o l (dot column row colour) = painted (length (added_dots o l.last.marker (dot column row colour)))
reply o l layer = done
reply o l (marker m character) = done
reply o l (print x y text choice) = done
reply o l (render area words) = shown (screen_cell o (layers l) l.labels area words) (painted_in l)

-- 'A call that meets a condition above ... is refused and changes nothing.'
abbrev pub unless : {S : Type 0} → ℕ → S → S → S
unless zero before after = after
unless (suc number) before after = before

abbrev pub reply_unless : ℕ → Reply → Reply
reply_unless zero r = r
reply_unless (suc number) r = refused (suc number)

unfoldable pub ledger_after : Opening → Ledger → Call → Ledger
ledger_after o l c = unless (refusal_in o l c) l (accepted o l c)

unfoldable pub ledger_reply : Opening → Ledger → Call → Reply
ledger_reply o l c = reply_unless (refusal_in o l c) (reply o l c)

abbrev pub ledger_replies : Opening → Ledger → List Call → List Reply
ledger_replies o l [] = []
ledger_replies o l (c ∷ calls) = ledger_reply o l c ∷ ledger_replies o (ledger_after o l c) calls
