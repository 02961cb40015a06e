-- What each call gives for every canvas and every store: the answer, the canvas and the lent lists after it. The contracts of the code say: equal to these.
use Rattle.std.specs.Prelude.{ℕ, zero, suc, ◌+◌, ◌-◌, ◌*◌, ◌/◌, ◌%◌, ◌^◌, min, Bool, true, false, cond, not, ◌||◌, List, [], ◌∷◌, ltb, Float, length, get_or, Option, Some, None}
use Rattle.floats.specs.Arithmetic.{bits}
use Rattle.walk.specs.declared.clip.Bounds.{Bounds}
use Rattle.walk.specs.declared.bresenham.Dot.{Dot}
use Rattle.grids.specs.Lists.{foldl}
use Rattle.grids.specs.Markers.{marker_of, is_marker}
use Rattle.grids.specs.Cells.{cell_at}
use Rattle.grids.specs.Painting.{paint_dots}
use Rattle.grids.specs.Layer.{save_of, reset_of, blank_of}
use Rattle.grids.specs.declared.layer.LayerCell.{LayerCell}
use Rattle.grids.specs.declared.painting.Grid.{Grid}
use Rattle.view.specs.Limits.{max_draws, max_painted, max_labels, cell_words, label_words}
use Rattle.view.specs.Point.{label_place, view_of}
use Rattle.ledger.specs.Screen.{ScreenCell, cell_on, put_on, or_else, layered, Placed}
use Rattle.ledger.specs.Labels.{put_label, held_labels}
use Rattle.grids.specs.Lists.{first}
use Rattle.ledger.specs.Calls.{Call, draw, points, dot, layer, marker, print, render, bad_size, bad_bounds, bad_colour, refusal, open_refusal, call_dots}
use Rattle.ledger.specs.declared.state.Opening.{Opening}
use Rattle.ledger.specs.Ledger.{choice_word, ink_of, unless, reply_unless, Reply, painted, done, shown}
use Rattle.ledger.specs.declared.screen.Area.{Area}
use Rattle.ledger.specs.declared.state.Canvas.{Canvas}

-- the canvas with the two lent stores
pub record State : Type 0 where
  pub canvas : Canvas
  pub cells : List ℕ
  pub labels : List ℕ

-- the opening that a canvas remembers
abbrev pub opening_of : Canvas → Opening
opening_of c = record { columns = c.columns; rows = c.rows; bounds = c.bounds; marker = c.marker; character = c.character; background = c.background }

-- the grid that is being drawn
abbrev pub grid_of : Canvas → Grid
grid_of c = record { columns = c.columns; rows = c.rows; marker = marker_of c.marker }

abbrev pub cell_count : Canvas → ℕ
cell_count c = c.columns * c.rows

-- ---- 'State': '5 if the canvas holds a size, bound, colour, marker or count outside the domain, or a store is too short; then 6 if it was rendered'

unfoldable pub bad_canvas : Canvas → Bool
bad_canvas c =
    (((bad_size c.columns c.rows || bad_bounds c.bounds) || bad_colour c.background) || not (is_marker c.marker c.character))
    || ((ltb max_draws c.draws || ltb max_labels c.labels) || ltb (max_painted * c.draws) c.painted)

unfoldable pub short_stores : Canvas → ℕ → ℕ → Bool
short_stores c cells labels = ltb cells (cell_count c * cell_words) || ltb labels (max_labels * label_words)

unfoldable pub state_refusal : Canvas → ℕ → ℕ → ℕ
state_refusal c cells labels = first ((bad_canvas c || short_stores c cells labels, 5) ∷ (c.rendered, 6) ∷ [])

-- the first of two refusals, 0 being none
abbrev pub or_refusal : ℕ → ℕ → ℕ
or_refusal zero second = second
or_refusal (suc number) second = suc number

unfoldable pub refusal_on : State → Call → ℕ
refusal_on s c = or_refusal (state_refusal s.canvas (length s.cells) (length s.labels)) (refusal (opening_of s.canvas) s.canvas.draws s.canvas.labels s.canvas.marker c)

-- ---- Open

abbrev pub opened_canvas : Opening → Canvas
opened_canvas o = record {
  columns = o.columns;
  rows = o.rows;
  bounds = o.bounds;
  marker = o.marker;
  character = o.character;
  background = o.background;
  dirty = false;
  rendered = false;
  labels = 0;
  draws = 0;
  painted = 0;
}

-- 'A refused opening gives a canvas of 0 by 0, all its numbers 0'
abbrev pub zero_bounds : Bounds
zero_bounds = record { left = bits 0; right = bits 0; bottom = bits 0; top = bits 0 }

abbrev pub zero_canvas : Canvas
zero_canvas = record {
  columns = 0;
  rows = 0;
  bounds = zero_bounds;
  marker = 0;
  character = 0;
  background = 0;
  dirty = false;
  rendered = false;
  labels = 0;
  draws = 0;
  painted = 0;
}

-- 'Blanks that many and no more'
abbrev pub open_cells : Opening → List ℕ → ℕ → List ℕ
open_cells o cells labels = unless (open_refusal o (length cells) labels) cells (blank_of cells (o.columns * o.rows))

abbrev pub open_canvas : Opening → List ℕ → ℕ → Canvas
open_canvas o cells labels = unless (open_refusal o (length cells) labels) zero_canvas (opened_canvas o)

-- ---- Draw, Points and Dot: the dots painted in their colour; 'Any accepted draw marks the layer dirty, even one with no dot'

abbrev pub dots_on : Canvas → Call → List Dot
dots_on c call = call_dots (view_of c.bounds c.columns c.rows (marker_of c.marker)) call

abbrev pub drawn_canvas : Canvas → ℕ → Canvas
drawn_canvas c n = record {
  columns = c.columns;
  rows = c.rows;
  bounds = c.bounds;
  marker = c.marker;
  character = c.character;
  background = c.background;
  dirty = true;
  rendered = c.rendered;
  labels = c.labels;
  draws = c.draws + 1;
  painted = c.painted + n;
}

abbrev pub drawn_cells : State → Call → List ℕ
drawn_cells s call = paint_dots (marker_of s.canvas.marker) s.canvas.columns s.canvas.rows (suc (ink_of call)) s.cells (dots_on s.canvas call)

-- ---- Layer, Marker and the saving of a dirty layer

abbrev pub laid_cells : Canvas → List ℕ → List ℕ
laid_cells c cells = save_of (marker_of c.marker) (c.character % 2 ^ 21) cells (cell_count c)

abbrev pub saved_cells : Canvas → List ℕ → List ℕ
saved_cells c cells = reset_of (laid_cells c cells) (cell_count c)

abbrev pub clean_canvas : Canvas → Canvas
clean_canvas c = record {
  columns = c.columns;
  rows = c.rows;
  bounds = c.bounds;
  marker = c.marker;
  character = c.character;
  background = c.background;
  dirty = false;
  rendered = c.rendered;
  labels = c.labels;
  draws = c.draws;
  painted = c.painted;
}

abbrev pub marked_canvas : Canvas → ℕ → ℕ → Canvas
marked_canvas c m character = record {
  columns = c.columns;
  rows = c.rows;
  bounds = c.bounds;
  marker = m;
  character = character;
  background = c.background;
  dirty = false;
  rendered = c.rendered;
  labels = c.labels;
  draws = c.draws;
  painted = c.painted;
}

-- 'Marker clears the grid in any case'
abbrev pub marked_cells : Canvas → List ℕ → List ℕ
marked_cells c cells = reset_of (cond c.dirty (laid_cells c cells) cells) (cell_count c)

-- ---- Print

abbrev pub printed_canvas : Canvas → Canvas
printed_canvas c = record {
  columns = c.columns;
  rows = c.rows;
  bounds = c.bounds;
  marker = c.marker;
  character = c.character;
  background = c.background;
  dirty = c.dirty;
  rendered = c.rendered;
  labels = c.labels + 1;
  draws = c.draws;
  painted = c.painted;
}

abbrev pub label_on : Canvas → Float → Float → List ℕ → Option ℕ → Placed
label_on c x y text choice = record { place = label_place c.bounds c.columns c.rows x y; word = choice_word choice; text = text }

-- ---- Render

abbrev pub rendered_canvas : Canvas → Canvas
rendered_canvas c = record {
  columns = c.columns;
  rows = c.rows;
  bounds = c.bounds;
  marker = c.marker;
  character = c.character;
  background = c.background;
  dirty = false;
  rendered = true;
  labels = c.labels;
  draws = c.draws;
  painted = c.painted;
}

abbrev pub rendered_cells : Canvas → List ℕ → List ℕ
rendered_cells c cells = cond c.dirty (saved_cells c cells) cells

-- puts into the screen's cells, one after the other: the screen after n steps of a loop
abbrev pub puts : (ℕ → ℕ) → (ℕ → ScreenCell → ScreenCell) → List ℕ → ℕ → List ℕ
puts at become words zero = words
puts at become words (suc k) = put_on (puts at become words k) (at k) (become k (cell_on (puts at become words k) (at k)))

-- a column and row of the area on the screen
unfoldable pub spot : Area → ℕ → ℕ → ℕ
spot a column row = (a.y + row) * a.columns + (a.x + column)

-- the composed picture of a cell of the store
abbrev pub picture_at : List ℕ → ℕ → LayerCell
picture_at cells i = record { symbol = (cell_at cells i).symbol; foreground = (cell_at cells i).foreground; background = (cell_at cells i).background }

abbrev pub laid_screen : Canvas → List ℕ → Area → List ℕ → List ℕ
laid_screen c cells a words = puts (λ k. spot a (k % c.columns) (k / c.columns)) (λ k. layered c.background (picture_at cells k)) words (cell_count c)

-- a label's bytes 'up to the area's right edge', and none outside the bounds
abbrev pub fitting_at : ℕ → ℕ → Option (ℕ × ℕ) → ℕ → ℕ
fitting_at columns rows None n = 0
fitting_at columns rows (Some (column, row)) n = cond (ltb row rows) (min n (columns - column)) 0

abbrev pub fitting : Canvas → Placed → ℕ
fitting c l = fitting_at c.columns c.rows l.place (length l.text)

abbrev pub column_of : Option (ℕ × ℕ) → ℕ
column_of None = 0
column_of (Some (column, row)) = column

abbrev pub row_of : Option (ℕ × ℕ) → ℕ
row_of None = 0
row_of (Some (column, row)) = row

abbrev pub lettered : Placed → ℕ → ScreenCell → ScreenCell
lettered l k old = record { symbol = get_or l.text k 0; foreground = or_else l.word old.foreground; background = old.background }

abbrev pub written_label : Canvas → Area → List ℕ → Placed → List ℕ
written_label c a words l = puts (λ k. spot a (column_of l.place + k) (row_of l.place)) (lettered l) words (fitting c l)

unfoldable pub rendered_screen : Canvas → List ℕ → List Placed → Area → List ℕ → List ℕ
rendered_screen c cells labels a words = foldl (written_label c a) (laid_screen c cells a words) labels

-- the report's number of label cells
abbrev pub label_cells : Canvas → List Placed → ℕ
label_cells c [] = 0
label_cells c (l ∷ labels) = fitting c l + label_cells c labels

abbrev pub screen_after : State → Area → List ℕ → List ℕ
screen_after s a words = rendered_screen s.canvas (rendered_cells s.canvas s.cells) (held_labels s.labels s.canvas.labels) a words

-- ---- a call that is accepted, and one that may be refused

abbrev pub with_cells : State → Canvas → List ℕ → State
with_cells s c cells = record { canvas = c; cells = cells; labels = s.labels }

abbrev pub accepted_on : State → Call → State
accepted_on s (draw shape colour) = with_cells s (drawn_canvas s.canvas (length (dots_on s.canvas (draw shape colour)))) (drawn_cells s (draw shape colour))
accepted_on s (points pairs colour) = with_cells s (drawn_canvas s.canvas (length (dots_on s.canvas (points pairs colour)))) (drawn_cells s (points pairs colour))
accepted_on s (dot column row colour) = with_cells s (drawn_canvas s.canvas (length (dots_on s.canvas (dot column row colour)))) (drawn_cells s (dot column row colour))
accepted_on s layer = with_cells s (clean_canvas s.canvas) (saved_cells s.canvas s.cells)
accepted_on s (marker m character) = with_cells s (marked_canvas s.canvas m character) (marked_cells s.canvas s.cells)
accepted_on s (print x y text choice) = record { canvas = printed_canvas s.canvas; cells = s.cells; labels = put_label s.labels s.canvas.labels (label_on s.canvas x y text choice) }
accepted_on s (render area words) = with_cells s (rendered_canvas s.canvas) (rendered_cells s.canvas s.cells)

abbrev pub reply_on : State → Call → Reply
reply_on s (draw shape colour) = painted (length (dots_on s.canvas (draw shape colour)))
reply_on s (points pairs colour) = painted (length (dots_on s.canvas (points pairs colour)))
reply_on s (dot column row colour) = painted (length (dots_on s.canvas (dot column row colour)))
reply_on s layer = done
reply_on s (marker m character) = done
reply_on s (print x y text choice) = done
reply_on s (render area words) = shown (cell_on (screen_after s area words)) s.canvas.painted

unfoldable pub state_after : State → Call → State
state_after s c = unless (refusal_on s c) s (accepted_on s c)

unfoldable pub reply_after : State → Call → Reply
reply_after s c = reply_unless (refusal_on s c) (reply_on s c)

-- 'In a list of calls each gets the canvas and stores as the one before left them'
abbrev pub replies : State → List Call → List Reply
replies s [] = []
replies s (c ∷ calls) = reply_after s c ∷ replies (state_after s c) calls
