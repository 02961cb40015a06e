-- Dots of a column painted one after the other are their cells inked once each: the dots in one cell or their bits together, by induction on their number; then cell by cell, by induction on the cells.
use mathlib.Core.Path.{◌≡◌, refl, sym, ap, ◌∙◌}
use mathlib.Core.Bool.{Bool, true, false, cond}
use mathlib.Core.List.{List, [], ◌∷◌, ◌++◌, append_assoc, append-nil}
use Prim.Native.Nat.{ℕ, zero, suc, ◌+◌, ◌-◌, ◌*◌, ◌/◌, ◌%◌, ◌^◌, ◌≤◌, ◌<◌}
use native.Mathlib.Omega.{arith}
use native.Mathlib.Nat.{add-zero, add-suc, add_assoc, zero-mul, div-one, mod-one, mul-le-mul_right}
use lib.Dec.{eqb, ltb}
use lib.ListN.{length, get_or, set, length-set}
use lib.Seq.{get_or-set_same, get_or-set_other, set-set, set_comm}
use lib.Pow.{pow-add, pow_pos}
use lib.Bits.{bit_or, or_zero_l, or_block}
use borrow.Author.Tests.{lt-ltb, ltb-true, ltb-false, eqb-true, eqb-false}
use Rattle.grids.specs.Markers.{by, dot_size, is_half_block, is_plain}
use Rattle.grids.specs.Dots.{cell_index, bit_of}
use Rattle.grids.specs.Painting.{paint_dots, inked_cell}
use Rattle.columns.specs.Columns.{column_dots, column_mask, inked_down, braille_rows}
use Rattle.grids.proofs.Words.{foldl-append}
use Rattle.grids.proofs.Patterns.{or_assoc}
use Rattle.grids.proofs.DotSizes.{plain_size, cell-index-by, bit-by}
use Rattle.grids.proofs.InkedCells.{ink-words, ink-past, dot-inked, not_half}
use Rattle.grids.specs.declared.markers.Marker.{Marker}
use Rattle.grids.specs.declared.markers.Marker.TheVariants.{Braille}

-- ---- a column in two parts
column-parts : (column row m n : ℕ) → column_dots column row (m + n) ≡ column_dots column row m ++ column_dots column (row + m) n
column-parts column row m zero = rw (add-zero m, append-nil (column_dots column row m))
column-parts column row m (suc n) =
    rw (add-suc m n, column-parts column row m n, append_assoc, add_assoc row m n)

-- ---- a cell inked twice with one ink is inked once with the bits of both
ink-ink : (cells : List ℕ) (i a b word : ℕ) → inked_cell (inked_cell cells i a word) i b word ≡ inked_cell cells i (bit_or a b) word
ink-ink cells i a b word = go (ltb i (length cells / 5)) refl
  where
    p : ℕ
    p = get_or cells (i * 5 + 3) 0

    once : List ℕ
    once = set (set cells (i * 5 + 3) (bit_or p a)) (i * 5 + 4) word

    go : (t : Bool) → ltb i (length cells / 5) ≡ t → inked_cell (inked_cell cells i a word) i b word ≡ inked_cell cells i (bit_or a b) word
    go true e =
        let h : i < length cells / 5 = ltb-true i (length cells / 5) e in
        let l : length once ≡ length cells = simp length-set in
        let read : get_or once (i * 5 + 3) 0 ≡ bit_or p a =
        get_or-set_other (set cells (i * 5 + 3) (bit_or p a)) (i * 5 + 4) (i * 5 + 3) word 0 (λ q. omega arith) ∙ get_or-set_same cells (i * 5 + 3) (bit_or p a) 0 (omega arith) in
        rw (ink-words cells i a word h, ink-words cells i (bit_or a b) word h, ink-words once i b word (rw l h), read, or_assoc p a b)
        (ap (λ (s : List ℕ). set s (i * 5 + 4) word)
        (set_comm (set cells (i * 5 + 3) (bit_or p a)) (i * 5 + 4) (i * 5 + 3) word (bit_or p (bit_or a b)) (λ q. omega arith)
        ∙ ap (λ (s : List ℕ). set s (i * 5 + 4) word) (set-set cells (i * 5 + 3) (bit_or p a) (bit_or p (bit_or a b))))
        ∙ set-set (set cells (i * 5 + 3) (bit_or p (bit_or a b))) (i * 5 + 4) word word)
    go false e =
        let h : length cells / 5 ≤ i = ltb-false i (length cells / 5) e in
        rw (ink-past cells i a word h, ink-past cells i b word h, ink-past cells i (bit_or a b) word h)

-- ---- dots of a column that lie in one cell
-- their bits together
abbrev column_bits : Marker → ℕ → ℕ → ℕ → ℕ
column_bits marker column row zero = 0
column_bits marker column row (suc n) = bit_or (column_bits marker column row n) (bit_of marker column (row + n))

module _ (marker : Marker) (columns rows word : ℕ) (other : is_half_block marker ≡ false) where
  -- 'Pattern and char grids ignore only a flat cell index past the end.'
  abbrev inked_at : List ℕ → ℕ → ℕ → List ℕ
  inked_at cells i bits = cond (ltb i (columns * rows)) (inked_cell cells i bits word) cells

  pub dots-in-cell : (cells : List ℕ) (column row i n : ℕ) → ((k : ℕ) → k ≤ n → cell_index marker columns column (row + k) ≡ i)
      → paint_dots marker columns rows word cells (column_dots column row (suc n)) ≡ cond (ltb i (columns * rows)) (inked_cell cells i (column_bits marker column row (suc n)) word) cells
  dots-in-cell cells column row i zero same =
      dot-inked marker columns rows other cells column (row + 0) word i (sym (same 0 (omega arith))) ∙ ap (inked_at cells i) (sym (or_zero_l (bit_of marker column (row + 0))))
  dots-in-cell cells column row i (suc n) same =
      foldl-append _ cells (column_dots column row (suc n)) (record { column = column; row = row + suc n } ∷ [])
      ∙ rw (dots-in-cell cells column row i n (λ k h. same k (omega arith)))
      (dot-inked marker columns rows other (inked_at cells i (column_bits marker column row (suc n))) column (row + suc n) word i (sym (same (suc n) (omega arith))) ∙ go (ltb i (columns * rows)))
    where
      a : ℕ
      a = column_bits marker column row (suc n)

      b : ℕ
      b = bit_of marker column (row + suc n)

      go : (t : Bool) → cond t (inked_cell (cond t (inked_cell cells i a word) cells) i b word) (cond t (inked_cell cells i a word) cells) ≡ cond t (inked_cell cells i (bit_or a b) word) cells
      go true = ink-ink cells i a b word
      go false = refl

  paint-parts : (cells : List ℕ) (column row m n : ℕ)
      → paint_dots marker columns rows word cells (column_dots column row (m + n)) ≡ paint_dots marker columns rows word (paint_dots marker columns rows word cells (column_dots column row m)) (column_dots column (row + m) n)
  paint-parts cells column row m n = rw (column-parts column row m n) (foldl-append _ cells (column_dots column row m) (column_dots column (row + m) n))

  -- ---- cells below one another, of suc h dots each, all with the same bits
  pub cells-inked : (h bits i column row n : ℕ) (cells : List ℕ)
      → ((j k : ℕ) → k ≤ h → cell_index marker columns column (row + j * suc h + k) ≡ i + j * columns)
      → ((j : ℕ) → column_bits marker column (row + j * suc h) (suc h) ≡ bits)
      → ((j : ℕ) → j < n → i + j * columns < columns * rows)
      → paint_dots marker columns rows word cells (column_dots column row (n * suc h)) ≡ inked_down columns bits word cells i n
  cells-inked h bits i column row zero cells place mask inside = rw (zero-mul (suc h))
  cells-inked h bits i column row (suc n) cells place mask inside =
      let e : suc n * suc h ≡ n * suc h + suc h = omega arith in
      rw e (paint-parts cells column row (n * suc h) (suc h)
      ∙ rw (cells-inked h bits i column row n cells place mask (λ j l. inside j (omega arith)))
      (dots-in-cell (inked_down columns bits word cells i n) column (row + n * suc h) (i + n * columns) h (place n)
      ∙ rw (mask n, lt-ltb (i + n * columns) (columns * rows) (inside n (omega arith)))))

-- ---- Braille: 1, 5, 21 and 85 are the bits of one to four dots
ones-next : (n : ℕ) → n < 4 → bit_or (85 / 2 ^ (8 - n * 2)) (2 ^ (n * 2)) ≡ 85 / 2 ^ (8 - suc n * 2)
ones-next zero h = refl
ones-next (suc zero) h = refl
ones-next (suc (suc zero)) h = refl
ones-next (suc (suc (suc zero))) h = refl
ones-next (suc (suc (suc (suc n)))) h = absurd (omega arith)

or-shift : (x y p : ℕ) → bit_or (x * 2 ^ p) (y * 2 ^ p) ≡ bit_or x y * 2 ^ p
or-shift x y p = simp (add-zero, or_zero_l) at (or_block p x y 0 0 (pow_pos p) (pow_pos p))

braille-size : dot_size Braille ≡ by 2 4
braille-size = refl

mask-bits : (column row n : ℕ) → row % 4 + n ≤ 4 → column_bits Braille column row n ≡ column_mask column row n
unfolding column_mask
mask-bits column row zero h = sym (zero-mul (2 ^ (row % 4 * 2 + column % 2)))
mask-bits column row (suc n) h =
    let p : ℕ = row % 4 * 2 + column % 2 in
    let place : (row + n) % 4 * 2 + column % 2 ≡ n * 2 + p = omega arith in
    let bit : bit_of Braille column (row + n) ≡ 2 ^ (n * 2) * 2 ^ p = bit-by Braille braille-size column (row + n) ∙ ap (λ (k : ℕ). 2 ^ k) place ∙ pow-add 2 (n * 2) p in
    rw (mask-bits column row n (omega arith), bit)
    (or-shift (85 / 2 ^ (8 - n * 2)) (2 ^ (n * 2)) p ∙ ap (λ (x : ℕ). x * 2 ^ p) (ones-next n (omega arith)))

mask-aligned : (column row n : ℕ) → row % 4 ≡ 0 → column_mask column row n ≡ column_mask column 0 n
unfolding column_mask
mask-aligned column row n e = rw e

module _ (columns rows word column : ℕ) where
  -- n dots from a row on, all in its cell, or nothing where that is past the last
  pub braille-part : (cells : List ℕ) (row n : ℕ) → 0 < n → row % 4 + n ≤ 4
      → paint_dots Braille columns rows word cells (column_dots column row n)
      ≡ cond (ltb (row / 4 * columns + column / 2) (columns * rows)) (inked_cell cells (row / 4 * columns + column / 2) (column_mask column row n) word) cells
  braille-part cells row zero l h = absurd (omega arith)
  braille-part cells row (suc n) l h =
      dots-in-cell Braille columns rows word refl cells column row (row / 4 * columns + column / 2) n place ∙ rw (mask-bits column row (suc n) h)
    where
      place : (k : ℕ) → k ≤ n → cell_index Braille columns column (row + k) ≡ row / 4 * columns + column / 2
      place k le =
          let e : (row + k) / 4 ≡ row / 4 = omega arith in
          cell-index-by Braille braille-size columns column (row + k) ∙ rw e

  braille-inside : (cells : List ℕ) (row n : ℕ) → 0 < n → row % 4 + n ≤ 4 → row / 4 * columns + column / 2 < columns * rows
      → paint_dots Braille columns rows word cells (column_dots column row n) ≡ inked_cell cells (row / 4 * columns + column / 2) (column_mask column row n) word
  braille-inside cells row n l h inside = braille-part cells row n l h ∙ rw (lt-ltb (row / 4 * columns + column / 2) (columns * rows) inside)

  -- n whole cells from a row on
  braille-cells : (cells : List ℕ) (row n : ℕ) → row % 4 ≡ 0 → row / 4 * columns + n * columns + column / 2 < columns * rows + columns
      → paint_dots Braille columns rows word cells (column_dots column row (n * 4)) ≡ inked_down columns (column_mask column 0 4) word cells (row / 4 * columns + column / 2) n
  braille-cells cells row n aligned inside =
      cells-inked Braille columns rows word refl 3 (column_mask column 0 4) (row / 4 * columns + column / 2) column row n cells place mask within
    where
      place : (j k : ℕ) → k ≤ 3 → cell_index Braille columns column (row + j * 4 + k) ≡ row / 4 * columns + column / 2 + j * columns
      place j k le =
          let e : (row + j * 4 + k) / 4 ≡ row / 4 + j = omega arith in
          cell-index-by Braille braille-size columns column (row + j * 4 + k) ∙ rw e (omega arith)

      mask : (j : ℕ) → column_bits Braille column (row + j * 4) 4 ≡ column_mask column 0 4
      mask j = mask-bits column (row + j * 4) 4 (omega arith) ∙ mask-aligned column (row + j * 4) 4 (omega arith)

      within : (j : ℕ) → j < n → row / 4 * columns + column / 2 + j * columns < columns * rows
      within j l = omega (arith, mul-le-mul_right {m = j + 1} {n = n} columns (omega arith))

  pub braille-rows : (cells : List ℕ) (low high : ℕ) → low ≤ high → high / 4 * columns + column / 2 < columns * rows
      → paint_dots Braille columns rows word cells (column_dots column low (high + 1 - low)) ≡ braille_rows columns word cells column low high
  unfolding braille_rows
  braille-rows cells low high le inside = go (eqb (low / 4) (high / 4)) refl
    where
      head : ℕ
      head = low / 4 * columns + column / 2

      between : ℕ
      between = high / 4 - low / 4 - 1

      first : List ℕ
      first = inked_cell cells head (column_mask column low (4 - low % 4)) word

      whole : List ℕ
      whole = inked_down columns (column_mask column 0 4) word first (head + columns) between

      go : (t : Bool) → eqb (low / 4) (high / 4) ≡ t → paint_dots Braille columns rows word cells (column_dots column low (high + 1 - low))
          ≡ cond t (inked_cell cells head (column_mask column low (high - low + 1)) word) (inked_cell whole (high / 4 * columns + column / 2) (column_mask column 0 (high % 4 + 1)) word)
      go true e =
          let same : low / 4 ≡ high / 4 = eqb-true (low / 4) (high / 4) e in
          let n : high + 1 - low ≡ high - low + 1 = omega arith in
          rw n (braille-inside cells low (high - low + 1) (omega arith) (omega arith) (rw same inside))
      go false e =
          let apart : low / 4 < high / 4 = omega (arith, eqb-false (low / 4) (high / 4) e) in
          let n : high + 1 - low ≡ (4 - low % 4) + (between * 4 + (high % 4 + 1)) = omega arith in
          let row : ℕ = low + (4 - low % 4) in
          let below : row / 4 ≡ low / 4 + 1 = omega arith in
          let next : row / 4 * columns + column / 2 ≡ head + columns = rw below (omega arith) in
          let last : (row + between * 4) / 4 ≡ high / 4 = omega arith in
          let far : high / 4 * columns ≡ (low / 4 + 1 + between) * columns = ap (λ (q : ℕ). q * columns) (omega arith) in
          rw n (paint-parts Braille columns rows word refl cells column low (4 - low % 4) (between * 4 + (high % 4 + 1))
          ∙ rw (braille-inside cells low (4 - low % 4) (omega arith) (omega arith) (omega (arith, far)))
          (paint-parts Braille columns rows word refl first column row (between * 4) (high % 4 + 1)
          ∙ rw (braille-cells first row between (omega arith) (omega (arith, far, next)), next)
          (braille-inside whole (row + between * 4) (high % 4 + 1) (omega arith) (omega arith) (rw last inside)
          ∙ rw (last, mask-aligned column (row + between * 4) (high % 4 + 1) (omega arith)))))

-- ---- the grids of one dot a cell
pub char-rows : (marker : Marker) (columns rows word column : ℕ) (cells : List ℕ) (low high : ℕ) → is_plain marker ≡ true → low ≤ high → high * columns + column < columns * rows
    → paint_dots marker columns rows word cells (column_dots column low (high + 1 - low)) ≡ inked_down columns 1 word cells (low * columns + column) (high - low + 1)
char-rows marker columns rows word column cells low high char le inside =
    let n : high + 1 - low ≡ (high - low + 1) * 1 = omega arith in
    rw n (cells-inked marker columns rows word (not_half marker (plain_size marker char)) 0 1 (low * columns + column) column low (high - low + 1) cells place mask within)
  where
    one : dot_size marker ≡ by 1 1
    one = plain_size marker char

    place : (j k : ℕ) → k ≤ 0 → cell_index marker columns column (low + j * 1 + k) ≡ low * columns + column + j * columns
    place j k l =
        let e : low + j * 1 + k ≡ low + j = omega arith in
        rw e (cell-index-by marker one columns column (low + j) ∙ rw (div-one (low + j), div-one column) (omega arith))

    mask : (j : ℕ) → column_bits marker column (low + j * 1) 1 ≡ 1
    mask j = or_zero_l _ ∙ bit-by marker one column (low + j * 1 + 0) ∙ rw (mod-one (low + j * 1 + 0), mod-one column)

    within : (j : ℕ) → j < high - low + 1 → low * columns + column + j * columns < columns * rows
    within j l = omega (arith, mul-le-mul_right {m = low + j} {n = high} columns (omega arith))
