-- A cell inked: of its words two change; its words, lent by themselves, come back in their place; and a dot painted on any grid but HalfBlock is its cell inked, so that the loops over dots paint as `paint_of` does.
use mathlib.Core.Path.{◌≡◌, refl, sym, ap, ◌∙◌}
use mathlib.Core.Bool.{false, cond}
use mathlib.Core.List.{List, ◌++◌}
use Prim.Native.Nat.{ℕ, ◌+◌, ◌*◌, ◌-◌, ◌/◌, ◌%◌, ◌^◌, ◌<◌, ◌≤◌, min}
use native.Mathlib.Omega.{arith}
use native.Mathlib.Nat.{div-one, mod-one}
use lib.Dec.{ltb}
use lib.ListN.{length, get_or, set, take, drop, length-take, length-drop}
use lib.Seq.{set-get_or, get_or-take, get_or-drop, take-set-le, take-set-lt, drop-set-lt, drop-set-add}
use lib.Bits.{bit_or}
use borrow.Rule.Slice.PartMut.{put_same}
use Rattle.std.proofs.lemmas.Bool.Decides.{nat_tests}
use borrow.Author.Tests.{lt-ltb, le-ltb, eq-eqb}
use Rattle.grids.specs.declared.markers.Size.{Size}
use Rattle.grids.specs.Markers.{by, dot_size, is_half_block}
use Rattle.grids.specs.Dots.{cell_index, bit_of}
use Rattle.grids.specs.Cells.{cell_at, put_cell, words_at, put_words}
use Rattle.grids.specs.Painting.{painted_cell, paint_of, inked_cell, inked_words, cells_held, dot_set, BraillePaints, PlainPaints}
use Rattle.grids.proofs.DotSizes.{cell-index-by, bit-by}
use Rattle.grids.specs.declared.markers.Marker.{Marker}
use Rattle.grids.specs.declared.markers.Marker.TheVariants.{Braille, Dot, Block, Bar, HalfBlock, Quadrant, Sextant, Custom}

module _ (cells : List ℕ) (i bits word : ℕ) where
  -- only its last two words change
  pub ink-words : i < length cells / 5 → inked_cell cells i bits word ≡ set (set cells (i * 5 + 3) (bit_or (get_or cells (i * 5 + 3) 0) bits)) (i * 5 + 4) word
  unfolding inked_cell put_cell put_words cell_at words_at
  ink-words h = rw (lt-ltb i (length cells / 5) h, set-get_or cells (i * 5) 0, set-get_or cells (i * 5 + 1) 0, set-get_or cells (i * 5 + 2) 0)

  pub ink-past : length cells / 5 ≤ i → inked_cell cells i bits word ≡ cells
  unfolding inked_cell put_cell
  ink-past h = rw (le-ltb i (length cells / 5) h)

  -- its words lent by themselves, inked, and back in their place
  pub ink-part : {ws : List ℕ} → i < length cells / 5 → ws ≡ inked_words (take (i * 5 + 5 - i * 5) (drop (i * 5) cells)) bits word
      → take (i * 5) cells ++ (ws ++ drop (i * 5 + 5 - i * 5) (drop (i * 5) cells)) ≡ inked_cell cells i bits word
  unfolding inked_words
  ink-part h w =
      let n = i * 5 in
      let p = bit_or (get_or cells (n + 3) 0) bits in
      let size : n + 5 - n ≡ 5 = omega arith in
      let five : length (take 5 (drop n cells)) ≡ 5 = simp (length-take, length-drop) (omega arith) in
      let low : n ≤ n + 3 = omega arith in
      let high : n ≤ n + 4 = omega arith in
      let third : 3 < 5 = omega arith in
      let fourth : 4 < 5 = omega arith in
      rw (w, size, eq-eqb (length (take 5 (drop n cells))) 5 five, get_or-take 5 (drop n cells) 3 0, get_or-drop n cells 3 0, ink-words h)
      (simp (take-set-le, drop-set-add, take-set-lt, drop-set-lt) at (put_same n 5 (set (set cells (n + 3) p) (n + 4) word)))

-- ---- a dot painted is its cell inked
module _ (marker : Marker) (columns rows : ℕ) (other : is_half_block marker ≡ false) (cells : List ℕ) (column row word i : ℕ) (here : i ≡ cell_index marker columns column row) where
  -- 'Pattern and char grids ignore only a flat cell index past the end.'
  pub dot-inked : paint_of marker columns rows cells column row word ≡ cond (ltb i (columns * rows)) (inked_cell cells i (bit_of marker column row) word) cells
  unfolding paint_of painted_cell inked_cell
  dot-inked = rw (here, other)

  pub ink-paints : i < columns * rows → inked_cell cells i (bit_of marker column row) word ≡ paint_of marker columns rows cells column row word
  ink-paints h = sym (dot-inked ∙ rw (lt-ltb i (columns * rows) h))

module _ (columns rows : ℕ) (cells : List ℕ) (column row word : ℕ) where
  pub braille-inked-dot : row / 4 * columns + column / 2 < columns * rows → inked_cell cells (row / 4 * columns + column / 2) (2 ^ (row % 4 * 2 + column % 2)) word ≡ paint_of Braille columns rows cells column row word
  unfolding cell_index bit_of
  braille-inked-dot h = ink-paints Braille columns rows refl cells column row word (row / 4 * columns + column / 2) refl h

pub not_half : (marker : Marker) → dot_size marker ≡ by 1 1 → is_half_block marker ≡ false
not_half Braille one = refl
not_half Dot one = refl
not_half Block one = refl
not_half Bar one = refl
not_half HalfBlock one = absurd (omega (arith, ap (λ (s : Size). s.rows) one))
not_half Quadrant one = refl
not_half Sextant one = refl
not_half Custom one = refl

module _ (marker : Marker) (one : dot_size marker ≡ by 1 1) (columns rows : ℕ) (cells : List ℕ) (column row word : ℕ) where
  plain_other : is_half_block marker ≡ false
  plain_other = not_half marker one

  plain-inked : paint_of marker columns rows cells column row word ≡ cond (ltb (row * columns + column) (columns * rows)) (inked_cell cells (row * columns + column) 1 word) cells
  plain-inked =
      let index : row * columns + column ≡ cell_index marker columns column row = sym (simp (cell-index-by marker one, div-one)) in
      let bit : bit_of marker column row ≡ 1 = simp (bit-by marker one, mod-one) in
      rw bit at (dot-inked marker columns rows plain_other cells column row word (row * columns + column) index)

  pub plain-inked-dot : row * columns + column < columns * rows → inked_cell cells (row * columns + column) 1 word ≡ paint_of marker columns rows cells column row word
  plain-inked-dot h = sym (plain-inked ∙ rw (lt-ltb (row * columns + column) (columns * rows) h))

-- ---- in a loop over dots
-- the cell is none of the first `end`, or the store has it not
pub dot-past : (cells : List ℕ) (end i bits word : ℕ) → min end (length cells / 5) ≤ i → dot_set cells end i bits word ≡ cells
unfolding dot_set
dot-past cells end i bits word h = grind (arith, nat_tests, ink-past)

-- a cell that the canvas has and the store has not stays as it is
dot-held : (cells : List ℕ) (columns rows i bits word end : ℕ) → end ≡ cells_held cells columns rows → dot_set cells end i bits word ≡ cond (ltb i (columns * rows)) (inked_cell cells i bits word) cells
unfolding dot_set
dot-held cells columns rows i bits word end held = grind (arith, nat_tests, ink-past)

-- a dot of a marker by its dots in a cell
pub sized-paints : (marker : Marker) {w h : ℕ} → dot_size marker ≡ by w h → is_half_block marker ≡ false → (columns rows : ℕ) (cells : List ℕ) (column row word : ℕ) {end : ℕ} → end ≡ cells_held cells columns rows
    → dot_set cells end (row / h * columns + column / w) (2 ^ (row % h * w + column % w)) word ≡ paint_of marker columns rows cells column row word
sized-paints marker {w} {h} size other columns rows cells column row word held =
    dot-held cells columns rows (row / h * columns + column / w) (2 ^ (row % h * w + column % w)) word _ held
    ∙ sym (rw (bit-by marker size column row) at (dot-inked marker columns rows other cells column row word (row / h * columns + column / w) (sym (cell-index-by marker size columns column row))))

pub braille-paints : BraillePaints
unfolding cell_index bit_of
braille-paints columns rows cells column row word end held =
    let i = row / 4 * columns + column / 2 in
    dot-held cells columns rows i (2 ^ (row % 4 * 2 + column % 2)) word end held ∙ sym (dot-inked Braille columns rows refl cells column row word i refl)

pub plain-paints : PlainPaints
plain-paints marker one columns rows cells column row word end held =
    dot-held cells columns rows (row * columns + column) 1 word end held ∙ sym (plain-inked marker one columns rows cells column row word)

-- ---- for `ink_within`, and for the same cell in crate columns
pub ruleset inking = (ink-part, dot-past)
