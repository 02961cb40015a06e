-- A list of dots painted into the store, seen at one cell, is the dots in that cell painted there; reading its words gives what the layer's dots set.
use mathlib.Core.Path.{◌≡◌, refl, ◌∙◌}
use mathlib.Core.Bool.{Bool, true, false, cond, not}
use Rattle.std.proofs.lemmas.Bool.Decides.{nat_tests}
use mathlib.Core.List.{List, [], ◌∷◌}
use Prim.Native.Nat.{ℕ, suc, ◌*◌, ◌≤◌, ◌<◌}
use native.Mathlib.Omega.{arith}
use native.Mathlib.Nat.{zero-mod, mod-eq_of_lt}
use lib.Dec.{eqb}
use lib.ListN.{length, get_or}
use lib.Bits.{bit_or, or_zero_l, or_zero_r}
use borrow.Author.Tests.{ne_eqb}
use Rattle.walk.specs.declared.bresenham.Dot.{Dot}
use Rattle.grids.specs.declared.cells.Cell.{Cell}
use Rattle.grids.specs.Lists.{foldl, keep, over}
use Rattle.grids.specs.Markers.{is_half_block}
use Rattle.grids.specs.Dots.{Inked, cell_index, in_cell, bit_of, pattern_of, last_ink, is_upper, is_lower, half_block_cell, set_by}
use Rattle.grids.specs.Cells.{cell_at}
use Rattle.grids.specs.Painting.{with_grid, painted_cell, paint_of, paint_dots, inked, paint_inked}
use Rattle.grids.specs.Layer.{layer_cell}
use Rattle.grids.proofs.Words.{over_zero, over-assoc}
use Rattle.grids.proofs.CellStore.{length-put, cell-put-same, cell-put-other, word-put-other}
use Rattle.grids.proofs.Patterns.{or_assoc, pattern_lt, pattern-pos}
use Rattle.grids.specs.declared.markers.Marker.{Marker}

abbrev pub painted_inked : Marker → Cell → Inked → Cell
painted_inked marker c d = painted_cell marker c d.column d.row (suc d.ink)

-- ---- the store after one dot
module _ (marker : Marker) (columns rows : ℕ) (cells : List ℕ) (column row word : ℕ) where
  abbrev at : ℕ
  at = cell_index marker columns column row

  abbrev painted : ℕ → Cell
  painted n = painted_cell marker (cell_at cells n) column row word

  pub length-paint : length (paint_of marker columns rows cells column row word) ≡ length cells
  unfolding paint_of
  length-paint = grind (arith, nat_tests, length-put)

  -- in its own cell it paints, and in any other it changes nothing
  pub paint-at : (i : ℕ) → i < columns * rows → columns * rows * 5 ≤ length cells
      → cell_at (paint_of marker columns rows cells column row word) i ≡ cond (eqb (cell_index marker columns column row) i) (painted_cell marker (cell_at cells i) column row word) (cell_at cells i)
  unfolding paint_of
  paint-at i h room = grind (arith, nat_tests, cell-put-same, cell-put-other)

  pub paint-words-past : (j : ℕ) → columns * rows * 5 ≤ j → get_or (paint_of marker columns rows cells column row word) j 0 ≡ get_or cells j 0
  unfolding paint_of
  paint-words-past j h = grind (arith, nat_tests, word-put-other)

-- ---- the store after a list of dots
pub length-paint-inked : (marker : Marker) (columns rows : ℕ) (dots : List Inked) (cells : List ℕ) → length (paint_inked marker columns rows cells dots) ≡ length cells
length-paint-inked marker columns rows [] cells = refl
length-paint-inked marker columns rows (d ∷ dots) cells =
    length-paint-inked marker columns rows dots (paint_of marker columns rows cells d.column d.row (suc d.ink))
    ∙ length-paint marker columns rows cells d.column d.row (suc d.ink)

pub paint-inked-at : (marker : Marker) (columns rows : ℕ) (dots : List Inked) (cells : List ℕ) (i : ℕ) → i < columns * rows → columns * rows * 5 ≤ length cells
    → cell_at (paint_inked marker columns rows cells dots) i ≡ foldl (painted_inked marker) (cell_at cells i) (in_cell marker columns i dots)
paint-inked-at marker columns rows [] cells i h room = refl
paint-inked-at marker columns rows (d ∷ dots) cells i h room =
    paint-inked-at marker columns rows dots (paint_of marker columns rows cells d.column d.row (suc d.ink)) i h (simp length-paint room)
    ∙ rw (paint-at marker columns rows cells d.column d.row (suc d.ink) i h room) (go (eqb (cell_index marker columns d.column d.row) i))
  where
    go : (u : Bool) → foldl (painted_inked marker) (cond u (painted_inked marker (cell_at cells i) d) (cell_at cells i)) (in_cell marker columns i dots)
        ≡ foldl (painted_inked marker) (cell_at cells i) (cond u (d ∷ in_cell marker columns i dots) (in_cell marker columns i dots))
    go true = refl
    go false = refl

pub paint-dots-inked : (marker : Marker) (columns rows ink : ℕ) (dots : List Dot) (cells : List ℕ) → paint_dots marker columns rows (suc ink) cells dots ≡ paint_inked marker columns rows cells (inked ink dots)
paint-dots-inked marker columns rows ink [] cells = refl
paint-dots-inked marker columns rows ink (d ∷ dots) cells = paint-dots-inked marker columns rows ink dots (paint_of marker columns rows cells d.column d.row (suc ink))

-- ---- the grid's words in a cell, after a list of dots
half-words : (marker : Marker) → is_half_block marker ≡ true → (dots : List Inked) (c : Cell)
    → foldl (painted_inked marker) c dots ≡ with_grid c (over (last_ink (keep is_upper dots)) c.pattern) (over (last_ink (keep is_lower dots)) c.ink)
unfolding painted_cell
half-words marker half [] c = refl
half-words marker half (d ∷ dots) c = rw half (go (is_upper d) (half-words marker half dots))
  where
    go : (t : Bool) → ((b : Cell) → foldl (painted_inked marker) b dots ≡ with_grid b (over (last_ink (keep is_upper dots)) b.pattern) (over (last_ink (keep is_lower dots)) b.ink))
        → foldl (painted_inked marker) (cond t (with_grid c (suc d.ink) c.ink) (with_grid c c.pattern (suc d.ink))) dots
        ≡ with_grid c (over (last_ink (cond t (d ∷ keep is_upper dots) (keep is_upper dots))) c.pattern) (over (last_ink (cond (not t) (d ∷ keep is_lower dots) (keep is_lower dots))) c.ink)
    go true ih = ih (with_grid c (suc d.ink) c.ink) ∙ rw over-assoc
    go false ih = ih (with_grid c c.pattern (suc d.ink)) ∙ rw over-assoc

pattern-words : (marker : Marker) → is_half_block marker ≡ false → (dots : List Inked) (c : Cell)
    → foldl (painted_inked marker) c dots ≡ with_grid c (bit_or c.pattern (pattern_of marker dots)) (over (last_ink dots) c.ink)
unfolding painted_cell
pattern-words marker other [] c = rw or_zero_r
pattern-words marker other (d ∷ dots) c =
    rw other
    (pattern-words marker other dots (with_grid c (bit_or c.pattern (bit_of marker d.column d.row)) (suc d.ink)) ∙ rw (or_assoc, over-assoc))

pub painted-picture : (marker : Marker) (dots : List Inked) (c : Cell) → with_grid (foldl (painted_inked marker) c dots) 0 0 ≡ with_grid c 0 0
painted-picture marker dots c = go (is_half_block marker) refl
  where
    go : (t : Bool) → is_half_block marker ≡ t → with_grid (foldl (painted_inked marker) c dots) 0 0 ≡ with_grid c 0 0
    go true half = rw (half-words marker half dots c)
    go false other = rw (pattern-words marker other dots c)

-- ---- reading the words gives what the dots set
pub layer-of-dots : (marker : Marker) (character : ℕ) (dots : List Inked) (c : Cell) → layer_cell marker character (foldl (painted_inked marker) (with_grid c 0 0) dots) ≡ set_by marker character dots
unfolding layer_cell set_by half_block_cell
layer-of-dots marker character dots c = go (is_half_block marker) refl dots
  where
    go : (t : Bool) → is_half_block marker ≡ t → (ds : List Inked) → layer_cell marker character (foldl (painted_inked marker) (with_grid c 0 0) ds) ≡ set_by marker character ds
    go true half [] = rw half
    go true half (d ∷ ds) = rw (half-words marker half (d ∷ ds) (with_grid c 0 0), over_zero (last_ink (keep is_upper (d ∷ ds))), over_zero (last_ink (keep is_lower (d ∷ ds))), half)
    go false other [] = rw (other, zero-mod)
    go false other (d ∷ ds) =
        let p = pattern_of marker (d ∷ ds) in
        rw (pattern-words marker other (d ∷ ds) (with_grid c 0 0), other, or_zero_l p, over_zero, mod-eq_of_lt (pattern_lt marker (d ∷ ds)), ne_eqb p 0 (omega (arith, pattern-pos marker d ds)))
