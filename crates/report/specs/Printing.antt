-- What is printed of a picture file that was drawn on a screen: document 01, 'Picture file (ours) and its program'.
use Rattle.std.specs.Prelude.{ℕ, List}
use Rattle.picture.specs.Run.{Picture, picture_of}
use Rattle.picture.specs.Drawn.{Drawn}
use Rattle.picture.specs.Drawn.{Shown, Refused}
use Rattle.text.specs.Screen.{Cells, cells_of}
use Rattle.text.specs.Listing.{listing, refusal_line}
use Rattle.text.specs.Terminal.{terminal}
use Rattle.report.specs.Screen.{blank_screen, columns_of, rows_of}

-- a text of the screen's cells; 'A refusal prints `refused N at B` alone'
abbrev pub printed_by : (ℕ → ℕ → ℕ → Cells → List ℕ) → List ℕ → List ℕ → Drawn → List ℕ
printed_by text file words (Shown painted label_cells) = text (columns_of file) (rows_of file) painted (cells_of words)
printed_by text file words (Refused number place) = refusal_line number place

abbrev pub printed_of : (ℕ → ℕ → ℕ → Cells → List ℕ) → List ℕ → Picture → List ℕ
printed_of text file p = printed_by text file p.screen p.drawn

-- 'First line: columns, rows, painted count. Then, row by row'
abbrev pub listing_of : List ℕ → Picture → List ℕ
listing_of file p = printed_of listing file p

-- the screen as a terminal shows it
abbrev pub terminal_of : List ℕ → Picture → List ℕ
terminal_of file p = printed_of (λ columns rows painted cells. terminal columns rows cells) file p

-- the file drawn on a screen that is blank first
abbrev pub on_blank : List ℕ → ℕ → ℕ → List ℕ → List ℕ → List ℕ → Picture
on_blank file widest highest cells labels screen = picture_of file widest highest cells labels (blank_screen screen)
