-- A dot of a HalfBlock grid set by the one word of its half is its cell put: the other four words are put as they are.
use Prim.Native.Nat.{ℕ, ◌+◌, ◌*◌, ◌/◌}
use mathlib.Core.Path.{◌≡◌, refl}
use mathlib.Core.List.{List}
use native.Mathlib.Nat.{div-one}
use native.Mathlib.Omega.{arith}
use lib.ListN.{get_or, set}
use lib.Seq.{set-get_or, get_or-set_other}
use Rattle.std.proofs.lemmas.Bool.Decides.{nat_tests}
use Rattle.grids.specs.Dots.{cell_index}
use Rattle.grids.specs.Cells.{words_at, put_words, cell_at, put_cell}
use Rattle.grids.specs.Painting.{with_grid, painted_cell, paint_of, half_dot, HalfPaints}
use Rattle.grids.proofs.DotSizes.{cell-index-by, plain_size}
use Rattle.grids.proofs.InkedCells.{sized-paints, braille-paints, plain-paints}
use Rattle.grids.specs.declared.markers.Marker.TheVariants.{HalfBlock}

module _ (cells : List ℕ) (i word : ℕ) where
  upper-put : put_words cells i (with_grid (words_at cells i) word (get_or cells (i * 5 + 4) 0)) ≡ set cells (i * 5 + 3) word
  unfolding put_words words_at
  upper-put =
      let e : get_or (set cells (i * 5 + 3) word) (i * 5 + 4) 0 ≡ get_or cells (i * 5 + 4) 0 = get_or-set_other cells (i * 5 + 3) (i * 5 + 4) word 0 (λ e. omega arith) in
      rw (set-get_or cells (i * 5) 0, set-get_or cells (i * 5 + 1) 0, set-get_or cells (i * 5 + 2) 0, ← e) (set-get_or (set cells (i * 5 + 3) word) (i * 5 + 4) 0)

  lower-put : put_words cells i (with_grid (words_at cells i) (get_or cells (i * 5 + 3) 0) word) ≡ set cells (i * 5 + 4) word
  unfolding put_words words_at
  lower-put = rw (set-get_or cells (i * 5) 0, set-get_or cells (i * 5 + 1) 0, set-get_or cells (i * 5 + 2) 0, set-get_or cells (i * 5 + 3) 0)

half-index : (columns column row : ℕ) → cell_index HalfBlock columns column row ≡ row / 2 * columns + column
half-index columns column row = simp (cell-index-by HalfBlock {w = 1} {h = 2} refl, div-one)

pub half-paints : HalfPaints
unfolding half_dot paint_of painted_cell put_cell cell_at words_at
half-paints columns rows cells column row word end held =
    rw (half-index columns column row) (grind (arith, nat_tests, upper-put, lower-put))

-- ---- for `paint`, at each marker
pub ruleset painting = (half-paints, sized-paints, braille-paints, plain-paints, plain_size)
