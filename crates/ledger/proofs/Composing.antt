-- A grid of the last layer's dots, laid over the picture of the layers before it and cleared, is the picture of all the layers: cell by cell, as reading the grid gives what the dots set.
use mathlib.Core.Path.{◌≡◌, refl, ap, ap₂, ◌∙◌}
use mathlib.Core.Bool.{Bool, true, false, cond}
use mathlib.Core.List.{List, [], ◌∷◌, ◌++◌}
use Prim.Native.Nat.{ℕ, ◌*◌, ◌%◌, ◌^◌, ◌≤◌, ◌<◌}
use lib.Dec.{eqb}
use lib.ListN.{length}
use Rattle.grids.specs.Lists.{foldl, over}
use Rattle.grids.specs.Markers.{marker_of, is_marker}
use Rattle.grids.specs.Symbols.{symbol_of}
use Rattle.grids.specs.Dots.{Inked, set_by}
use Rattle.grids.specs.Cells.{cell_at}
use Rattle.grids.specs.Painting.{with_grid}
use Rattle.grids.specs.Layer.{layer_cell, saved_cell, cleared_cell, save_of, reset_of}
use Rattle.grids.specs.declared.cells.Cell.{Cell}
use Rattle.grids.specs.declared.markers.Marker.{Marker}
use Rattle.grids.specs.declared.markers.Marker.TheVariants.{Braille, Dot, Block, Bar, HalfBlock, Quadrant, Sextant, Custom}
use Rattle.grids.specs.declared.layer.LayerCell.{LayerCell}
use Rattle.grids.proofs.Words.{last-append}
use Rattle.grids.proofs.CellStore.{length-each, each_at}
use Rattle.grids.proofs.DotsInCell.{painted_inked, painted-picture, layer-of-dots}
use Rattle.grids.proofs.Charts.{scalar-kept}
use Rattle.ledger.specs.Ledger.{Layer, layer_at, picture_of}

-- a cell of the store with a picture's words and a clear grid
abbrev pub pictured : LayerCell → Cell
pictured p = record { symbol = p.symbol; foreground = p.foreground; background = p.background; pattern = 0; ink = 0 }

abbrev pub laid_on : LayerCell → LayerCell → LayerCell
laid_on upper lower = record { symbol = over upper.symbol lower.symbol; foreground = over upper.foreground lower.foreground; background = over upper.background lower.background }

pub picture-snoc : (columns : ℕ) (ls : List Layer) (l : Layer) (i : ℕ) → picture_of columns (ls ++ (l ∷ [])) i ≡ laid_on (layer_at columns i l) (picture_of columns ls i)
unfolding picture_of
picture-snoc columns ls l i =
    rw (last-append (λ x. (layer_at columns i x).symbol) ls (l ∷ []), last-append (λ x. (layer_at columns i x).foreground) ls (l ∷ []), last-append (λ x. (layer_at columns i x).background) ls (l ∷ []))

-- ---- the character that the model keeps: only Custom's symbol has it
symbol-kept : (m character pattern : ℕ) → is_marker m character ≡ true → symbol_of (marker_of m) (character % 2 ^ 21) pattern ≡ symbol_of (marker_of m) character pattern
unfolding is_marker marker_of
symbol-kept m character pattern valid =
    go (eqb m 1) (eqb m 3) (eqb m 4) (eqb m 5) (eqb m 6) (eqb m 7) (eqb m 8) (λ e. scalar-kept character (rw e at valid))
  where
    go : (a b c d e f g : Bool) → (g ≡ true → character % 2 ^ 21 ≡ character)
        → let m : Marker = cond a Braille (cond b Block (cond c Bar (cond d HalfBlock (cond e Quadrant (cond f Sextant (cond g Custom Dot)))))) in
        symbol_of m (character % 2 ^ 21) pattern ≡ symbol_of m character pattern
    go true b c d e f g kept = refl
    go false true c d e f g kept = refl
    go false false true d e f g kept = refl
    go false false false true e f g kept = refl
    go false false false false true f g kept = refl
    go false false false false false true g kept = refl
    go false false false false false false true kept = kept refl
    go false false false false false false false kept = refl

set-kept : (m character : ℕ) (dots : List Inked) → is_marker m character ≡ true → set_by (marker_of m) (character % 2 ^ 21) dots ≡ set_by (marker_of m) character dots
unfolding set_by
set-kept m character [] valid = refl
set-kept m character (d ∷ dots) valid = rw (symbol-kept m character _ valid)

-- ---- a cell saved and cleared
module _ (m character : ℕ) (valid : is_marker m character ≡ true) (p : LayerCell) (dots : List Inked) where
  abbrev grid : Cell
  grid = foldl (painted_inked (marker_of m)) (pictured p) dots

  saved-picture : cleared_cell (saved_cell (marker_of m) (character % 2 ^ 21) grid) ≡ pictured (laid_on (set_by (marker_of m) character dots) p)
  unfolding saved_cell
  saved-picture =
      let set : layer_cell (marker_of m) (character % 2 ^ 21) grid ≡ set_by (marker_of m) character dots = layer-of-dots (marker_of m) (character % 2 ^ 21) dots (pictured p) ∙ set-kept m character dots valid in
      let kept : with_grid grid 0 0 ≡ pictured p = painted-picture (marker_of m) dots (pictured p) in
      ap₂ (λ (x : LayerCell) (c : Cell). pictured (laid_on x (record { symbol = c.symbol; foreground = c.foreground; background = c.background }))) set kept

  pub saved-cell : (cells : List ℕ) (n i : ℕ) → i < n → n * 5 ≤ length cells → cell_at cells i ≡ grid → cell_at (reset_of (save_of (marker_of m) (character % 2 ^ 21) cells n) n) i ≡ pictured (laid_on (set_by (marker_of m) character dots) p)
  saved-cell cells n i h room e =
      each_at cleared_cell (save_of (marker_of m) (character % 2 ^ 21) cells n) n i h (rw (length-each (saved_cell (marker_of m) (character % 2 ^ 21)) cells n) room)
      ∙ ap cleared_cell (each_at (saved_cell (marker_of m) (character % 2 ^ 21)) cells n i h room ∙ ap (saved_cell (marker_of m) (character % 2 ^ 21)) e)
      ∙ saved-picture
