-- Cells of the screen, three plain words each, and labels on it: document 01, 'Layers, labels, render'.
use Rattle.std.specs.Prelude.{ℕ, zero, suc, ◌+◌, ◌-◌, ◌*◌, ◌/◌, ◌%◌, Bool, false, cond, ◌&&◌, List, eqb, ltb, leb, length, get_or, set, Option, Some, None}
use Rattle.grids.specs.Lists.{last_word}
use Rattle.grids.specs.declared.layer.LayerCell.{LayerCell}
use Rattle.ledger.specs.declared.screen.Area.{Area}
-- 'A cell is a symbol (Unicode scalar value) and two colours.'
pub use Rattle.ledger.specs.declared.screen.ScreenCell.{ScreenCell}

-- the screen's cell j, and the screen with it made c
abbrev pub cell_on : List ℕ → ℕ → ScreenCell
cell_on words j = record { symbol = get_or words (j * 3) 0; foreground = get_or words (j * 3 + 1) 0; background = get_or words (j * 3 + 2) 0 }

abbrev pub put_on : List ℕ → ℕ → ScreenCell → List ℕ
put_on words j c = set (set (set words (j * 3) c.symbol) (j * 3 + 1) c.foreground) (j * 3 + 2) c.background

-- a word's value, or else another
abbrev pub or_else : ℕ → ℕ → ℕ
or_else zero other = other
or_else (suc value) other = value

-- what the layers set, over what was there: 'Background first, then layers in order'
abbrev pub layered : ℕ → LayerCell → ScreenCell → ScreenCell
layered background p old = record {
  symbol = or_else p.symbol old.symbol;
  foreground = or_else p.foreground old.foreground;
  background = or_else p.background background;
}

-- a label in its place: its colour is a word, 0 for none
pub record Placed : Type 0 where
  pub place : Option (ℕ × ℕ)
  pub word : ℕ
  pub text : List ℕ

-- whether it has a byte at a column and row of the area: 'one byte a cell'
abbrev pub covers_at : Option (ℕ × ℕ) → ℕ → ℕ → ℕ → Bool
covers_at None n column row = false
covers_at (Some (c, r)) n column row = eqb r row && (leb c column && ltb (column - c) n)

abbrev pub covers : Placed → ℕ → ℕ → Bool
covers l column row = covers_at l.place (length l.text) column row

abbrev pub start_of : Option (ℕ × ℕ) → ℕ
start_of None = 0
start_of (Some (c, r)) = c

abbrev pub label_symbol : ℕ → ℕ → Placed → ℕ
label_symbol column row l = cond (covers l column row) (suc (get_or l.text (column - start_of l.place) 0)) 0

abbrev pub label_foreground : ℕ → ℕ → Placed → ℕ
label_foreground column row l = cond (covers l column row) l.word 0

-- 'then labels in order'; 'its colour, if any, becomes the foreground, and the background stays'
abbrev pub labelled : List Placed → ℕ → ℕ → ScreenCell → ScreenCell
labelled labels column row old = record {
  symbol = or_else (last_word (label_symbol column row) labels) old.symbol;
  foreground = or_else (last_word (label_foreground column row) labels) old.foreground;
  background = old.background;
}

-- whether the screen's cell j lies in the area of columns by rows
abbrev pub in_area : ℕ → ℕ → Area → ℕ → Bool
in_area columns rows a j = (leb a.x (j % a.columns) && ltb (j % a.columns - a.x) columns) && (leb a.y (j / a.columns) && ltb (j / a.columns - a.y) rows)
