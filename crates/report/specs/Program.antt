-- The programs `layout` and `show`, from a file's bytes to the bytes that they print: document 01, 'Picture file (ours) and its program'.
-- By the bytes alone: no store, no screen that is lent, no canvas.
use Rattle.std.specs.Prelude.{ℕ, zero, suc, ◌*◌, ◌≤◌, ◌<◌, ◌≡◌, Bool, true, not, ◌&&◌, ◌||◌, List, [], ◌∷◌, leb, length, take}
use Rattle.grids.specs.Lists.{first}
use Rattle.grids.specs.Markers.{is_marker}
use Rattle.view.specs.Limits.{reset}
use Rattle.ledger.specs.declared.screen.ScreenCell.{ScreenCell}
use Rattle.ledger.specs.Calls.{Call, bad_size, bad_bounds, bad_colour}
use Rattle.ledger.specs.declared.state.Opening.{Opening}
use Rattle.ledger.specs.Ledger.{opened, unless, ledger_replies}
use Rattle.ledger.specs.Model.{or_refusal}
use Rattle.form.specs.Forms.{max_file}
use Rattle.picture.specs.Opening.{opening_of}
use Rattle.picture.specs.Run.{form_or_size}
use Rattle.picture.specs.Meaning.{entries_of, calls_of}
use Rattle.picture.specs.Faithful.{Result, refused_at, shown_as, last_call, judged}
use Rattle.text.specs.Screen.{Cells}
use Rattle.text.specs.Listing.{listing, refusal_line}
use Rattle.text.specs.Terminal.{terminal}

-- 'refuses more than 80 columns or 24 rows with 1'
abbrev pub widest : ℕ
widest = 80

abbrev pub highest : ℕ
highest = 24

-- ---- what a file comes to

-- '1 size; 2 a bound outside the domain; 3 colour; 4 marker not 1 to 8, or 8 with no scalar value';
-- 5 is of the stores alone, and the program's are never too short
unfoldable pub opening_fault : Opening → ℕ
opening_fault o =
    first ((bad_size o.columns o.rows, 1) ∷ (bad_bounds o.bounds, 2) ∷ (bad_colour o.background, 3) ∷ (not (is_marker o.marker o.character), 4) ∷ [])

-- what the opening is refused with: 17 and the form of its bytes, a size above the limits, then its own conditions
unfoldable pub fault : ℕ → ℕ → List ℕ → ℕ
fault columns rows file = or_refusal (form_or_size file columns rows) (opening_fault (opening_of file))

-- 'on a screen of that size, blank (0020, Reset, Reset)': so many cells
abbrev pub blank : ℕ → List ℕ
blank zero = []
blank (suc n) = 0x20 ∷ reset ∷ reset ∷ blank n

-- the calls that the bytes stand for, and the render that ends them
abbrev pub calls_in : List ℕ → List Call
calls_in file = calls_of (entries_of file) (last_call (opening_of file) (blank ((opening_of file).columns * (opening_of file).rows)) ∷ [])

-- what the ledger's replies to them come to: the first refusal with its place, or the cells of the screen and the painted count
abbrev pub ledger_result : List ℕ → Result
ledger_result file = judged (entries_of file) (ledger_replies (opening_of file) (opened (opening_of file)) (calls_in file))

-- 'B the place of the record's first byte, 0 for the opening and for 17'
unfoldable pub result_in : ℕ → ℕ → List ℕ → Result
result_in columns rows file = unless (fault columns rows file) (refused_at (fault columns rows file) 0) (ledger_result file)

-- ---- what is printed of it

abbrev pub cells_by : (ℕ → ScreenCell) → Cells
cells_by cells = record { symbol = λ k. (cells k).symbol; foreground = λ k. (cells k).foreground; background = λ k. (cells k).background }

-- 'First line: columns, rows, painted count. Then, row by row'; 'A refusal prints `refused N at B` alone'
abbrev pub listing_in : Opening → Result → List ℕ
listing_in o (refused_at number place) = refusal_line number place
listing_in o (shown_as cells painted) = listing o.columns o.rows painted (cells_by cells)

abbrev pub terminal_in : Opening → Result → List ℕ
terminal_in o (refused_at number place) = refusal_line number place
terminal_in o (shown_as cells painted) = terminal o.columns o.rows (cells_by cells)

-- the same for any text of the screen's cells
abbrev pub text_in : (ℕ → ℕ → ℕ → Cells → List ℕ) → Opening → Result → List ℕ
text_in text o (refused_at number place) = refusal_line number place
text_in text o (shown_as cells painted) = text o.columns o.rows painted (cells_by cells)

unfoldable pub printed_in : (ℕ → ℕ → ℕ → Cells → List ℕ) → List ℕ → List ℕ
printed_in text file = text_in text (opening_of file) (result_in widest highest file)

-- the program `layout`, and the program `show`
unfoldable pub layout_prints : List ℕ → List ℕ
layout_prints file = listing_in (opening_of file) (result_in widest highest file)

unfoldable pub show_prints : List ℕ → List ℕ
show_prints file = terminal_in (opening_of file) (result_in widest highest file)

-- the refusals that a file can meet: never 5, 6, 12 or 13, since the stores are long enough, the one render ends the file, and its
-- screen has the canvas' size; and never 7, since a record has at least two bytes, so that 65,536 bytes hold at most 32,768 draws
abbrev pub is_met : ℕ → Bool
is_met n = (leb 1 n && leb n 4) || ((leb 8 n && leb n 11) || (leb 14 n && leb n 17))

-- For every file, of any length:
pub record Enough : Type 0 where
  -- a refusal is one of these, and none has the number 0
  pub refusals : (columns rows : ℕ) (file : List ℕ) (number place : ℕ) → result_in columns rows file ≡ refused_at number place → is_met number ≡ true
  -- '17 over 65,536 bytes', at 0, and for no other file
  pub long : (columns rows : ℕ) (file : List ℕ) → max_file < length file → result_in columns rows file ≡ refused_at 17 0
  pub only-long : (columns rows : ℕ) (file : List ℕ) (place : ℕ) → result_in columns rows file ≡ refused_at 17 place → max_file < length file
  -- what is printed has room in 65,536 bytes, and in 81,920: a first line of at most 41 bytes and 31 a cell; 42 a cell and 5 a row
  pub layout : (file : List ℕ) → length (layout_prints file) ≤ 59561
  pub show : (file : List ℕ) → length (show_prints file) ≤ 80760
  -- reading 65,537 bytes and no further loses nothing
  pub layout-read : (file : List ℕ) → layout_prints (take 65537 file) ≡ layout_prints file
  pub show-read : (file : List ℕ) → show_prints (take 65537 file) ≡ show_prints file
