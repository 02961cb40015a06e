-- A canvas as a lent list of 64-bit words, a word a field, the bounds as their bits. Every list means a canvas.
use Rattle.std.specs.Prelude.{ℕ, ◌%◌, ◌^◌, Bool, cond, List, eqb, ltb, Float, length, get_or, set, Result, Ok, Err}
use Rattle.floats.specs.Arithmetic.{bits}
use Rattle.form.specs.Fields.{bits_of}
use Rattle.walk.specs.declared.clip.Bounds.{Bounds}
use Rattle.refusals.specs.declared.refusal.Refusal.{Refusal}
use Rattle.ledger.specs.Model.{zero_canvas}
use Rattle.ledger.specs.declared.state.Canvas.{Canvas}
use Rattle.ledger.specs.Answer.{Answer, Refused, Painted, Done, Rendered}

-- left, right, bottom, top, painted, character, background, labels, draws, columns, rows, marker, dirty, rendered; the ten after
-- them have no meaning yet, and wait for fields to come: an opening writes them 0, and nothing reads them (`unread` of Hosted)
abbrev pub canvas_words : ℕ
canvas_words = 24

abbrev pub short_words : List ℕ → Bool
short_words words = ltb (length words) canvas_words

-- a mark is the word's last bit
abbrev pub mark_of : ℕ → Bool
mark_of word = eqb (word % 2) 1

abbrev pub word_of : Bool → ℕ
word_of mark = cond mark 1 0

abbrev pub bounds_in : List ℕ → Bounds
bounds_in words = record { left = bits (get_or words 0 0); right = bits (get_or words 1 0); bottom = bits (get_or words 2 0); top = bits (get_or words 3 0) }

-- each word modulo its field's width
abbrev pub canvas_in : List ℕ → Canvas
canvas_in words = record {
  columns = get_or words 9 0 % 2 ^ 16;
  rows = get_or words 10 0 % 2 ^ 16;
  bounds = bounds_in words;
  marker = get_or words 11 0 % 2 ^ 8;
  character = get_or words 5 0 % 2 ^ 32;
  background = get_or words 6 0 % 2 ^ 32;
  dirty = mark_of (get_or words 12 0);
  rendered = mark_of (get_or words 13 0);
  labels = get_or words 7 0 % 2 ^ 32;
  draws = get_or words 8 0 % 2 ^ 32;
  painted = get_or words 4 0;
}

-- the canvas that words mean; a list that is too short means the canvas of a refused opening, which 'state' meets with 5
unfoldable pub canvas_of : List ℕ → Canvas
canvas_of words = cond (short_words words) zero_canvas (canvas_in words)

-- ---- the words after a call

-- the fields that calls change
abbrev pub changed_words : List ℕ → Canvas → List ℕ
changed_words words c =
    set (set (set (set (set (set (set words 4 c.painted) 5 c.character) 7 c.labels) 8 c.draws) 11 c.marker) 12 (word_of c.dirty)) 13 (word_of c.rendered)

unfoldable pub kept_words : List ℕ → Canvas → List ℕ
kept_words words c = cond (short_words words) words (changed_words words c)

-- the words without a meaning
abbrev pub cleared_words : List ℕ → List ℕ
cleared_words words = set (set (set (set (set (set (set (set (set (set words 14 0) 15 0) 16 0) 17 0) 18 0) 19 0) 20 0) 21 0) 22 0) 23 0

-- the fields that only an opening writes
abbrev pub fixed_words : List ℕ → Canvas → List ℕ
fixed_words words c =
    set (set (set (set (set (set (set words 0 (bits_of c.bounds.left)) 1 (bits_of c.bounds.right)) 2 (bits_of c.bounds.bottom)) 3 (bits_of c.bounds.top)) 6 c.background) 9 c.columns) 10 c.rows

-- all of them, at an opening
unfoldable pub all_words : List ℕ → Canvas → List ℕ
all_words words c = cond (short_words words) words (changed_words (fixed_words (cleared_words words) c) c)

-- 0, or document 01's number
abbrev pub status_of : Answer → ℕ
status_of (Refused number) = number
status_of (Painted n) = 0
status_of Done = 0
status_of (Rendered n labels) = 0

-- the words: a refused call leaves every one as it was
abbrev pub words_after : List ℕ → Answer → Canvas → List ℕ
words_after words (Refused number) c = words
words_after words (Painted n) c = kept_words words c
words_after words Done c = kept_words words c
words_after words (Rendered n labels) c = kept_words words c

-- the same by a call's result in the code
abbrev pub words_left : {A : Type 0} → List ℕ → Result A Refusal → Canvas → List ℕ
words_left words (Ok x) c = kept_words words c
words_left words (Err r) c = words

-- the lent numbers
abbrev pub painted_after : ℕ → Answer → ℕ
painted_after before (Refused number) = before
painted_after before (Painted n) = n
painted_after before Done = before
painted_after before (Rendered n labels) = n

abbrev pub label_cells_after : ℕ → Answer → ℕ
label_cells_after before (Refused number) = before
label_cells_after before (Painted n) = before
label_cells_after before Done = before
label_cells_after before (Rendered n labels) = labels
