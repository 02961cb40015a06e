-- What is printed of a picture on a blank screen, by its two outcomes.
use Prim.Native.Nat.{ℕ}
use mathlib.Core.Path.{◌≡◌}
use mathlib.Core.List.{List}
use lib.ListN.{length}
use Rattle.picture.specs.Run.{Picture, picture_of}
use Rattle.picture.specs.Drawn.{Drawn}
use Rattle.picture.specs.Drawn.{Shown, Refused}
use Rattle.text.specs.Bytes.{laid}
use Rattle.text.specs.Screen.{Cells, cells_of}
use Rattle.text.specs.Listing.{refusal_line}
use Rattle.report.specs.Screen.{blank_screen, columns_of, rows_of}
use Rattle.report.specs.Printing.{printed_of, on_blank}

-- bytes laid from the start of out, and their number
abbrev pub Laid : List ℕ → List ℕ → List ℕ → ℕ → Type 0
Laid out bytes after r = (after ≡ laid out 0 bytes) × (r ≡ length bytes)

-- the stores and the screen that a picture leaves
abbrev pub Left : Picture → List ℕ → List ℕ → List ℕ → Type 0
Left p cells labels screen = (cells ≡ p.state.cells) × ((labels ≡ p.state.labels) × (screen ≡ p.screen))

pub same_bytes : (out : List ℕ) {a b after : List ℕ} {r : ℕ} → a ≡ b → Laid out a after r → Laid out b after r
same_bytes out e w = rw e at w

pub on-blank : (file cells labels screen : List ℕ) (widest highest : ℕ) {blank cells' labels' screen' : List ℕ} {drawn : Drawn} → blank ≡ blank_screen screen
    → (drawn ≡ (picture_of file widest highest cells labels blank).drawn) × Left (picture_of file widest highest cells labels blank) cells' labels' screen'
    → (drawn ≡ (on_blank file widest highest cells labels screen).drawn) × Left (on_blank file widest highest cells labels screen) cells' labels' screen'
on-blank file cells labels screen widest highest e w = rw e at w

module _ (text : ℕ → ℕ → ℕ → Cells → List ℕ) (file : List ℕ) (p : Picture) where
  pub prints-shown : (painted label_cells : ℕ) {columns rows : ℕ} {words : List ℕ} → Shown painted label_cells ≡ p.drawn → columns ≡ columns_of file → rows ≡ rows_of file → words ≡ p.screen
      → text columns rows painted (cells_of words) ≡ printed_of text file p
  prints-shown painted label_cells d e f g = rw (e, f, g, ← d)

  pub prints-refused : (number place : ℕ) → Refused number place ≡ p.drawn → refusal_line number place ≡ printed_of text file p
  prints-refused number place d = rw (← d)
