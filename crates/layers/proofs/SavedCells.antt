-- A cell saved and cleared by its grid's two words. One without ink stays as it is: 'A layer sets nothing in a cell without its dots.' One of a grid that sets no background goes by the word of its symbol.
use Prim.Native.Nat.{ℕ, suc, ◌+◌, ◌*◌, ◌/◌, ◌%◌, ◌≤◌, ◌<◌}
use mathlib.Core.Path.{◌≡◌, refl, sym, ap, ◌∙◌}
use mathlib.Core.Bool.{Bool, true, false, ◌&&◌}
use mathlib.Core.List.{List}
use native.Mathlib.Nat.{zero-mod}
use native.Mathlib.Omega.{arith}
use lib.Dec.{eqb}
use lib.ListN.{length, get_or, set}
use lib.Seq.{set-get_or, get_or-set_other}
use borrow.Author.Tests.{lt-ltb, eqb-true, ne_eqb}
use Rattle.std.proofs.lemmas.Bool.{and_parts}
use Rattle.grids.specs.Lists.{over}
use Rattle.grids.specs.Markers.{is_half_block, is_block}
use Rattle.grids.specs.Symbols.{pattern_count, symbol_of}
use Rattle.grids.specs.Dots.{sets_nothing, half_block_cell}
use Rattle.grids.specs.Cells.{words_at, put_words, cell_at, put_cell, do_cell, do_four}
use Rattle.grids.specs.Painting.{with_grid}
use Rattle.grids.specs.Layer.{layer_cell, laid_over, saved_cell, cleared_cell, merged_cell, is_bare}
use Rattle.grids.specs.declared.cells.Cell.{Cell}
use Rattle.grids.specs.declared.layer.LayerCell.{LayerCell}
use Rattle.grids.proofs.Cases.{either}
use Rattle.grids.proofs.SymbolBounds.{braille-lt, read-symbol-lt}
use Rattle.layers.proofs.CellLoops.{words_of, put-own}
use Rattle.grids.specs.declared.markers.Marker.{Marker}

-- ---- the grid's two words
module _ (cells : List ℕ) (i : ℕ) (held : i < length cells / 5) where
  -- only they change
  pub cleared-words : set (set cells (i * 5 + 3) 0) (i * 5 + 4) 0 ≡ do_cell cleared_cell cells i
  unfolding put_cell put_words cell_at words_at
  cleared-words = simp (lt-ltb i (length cells / 5) held, set-get_or)

  pub pattern-at : (cell_at cells i).pattern ≡ get_or cells (i * 5 + 3) 0
  unfolding words_at
  pattern-at = ap (λ (c : Cell). c.pattern) (words_of cells i held)

  pub ink-at : (cell_at cells i).ink ≡ get_or cells (i * 5 + 4) 0
  unfolding words_at
  ink-at = ap (λ (c : Cell). c.ink) (words_of cells i held)

  -- the picture's words are not read
  pub layer-by-words : (marker : Marker) (character symbol foreground background : ℕ) → layer_cell marker character (record { symbol = symbol; foreground = foreground; background = background; pattern = get_or cells (i * 5 + 3) 0; ink = get_or cells (i * 5 + 4) 0 }) ≡ layer_cell marker character (cell_at cells i)
  unfolding layer_cell
  layer-by-words marker character symbol foreground background = rw (pattern-at, ink-at)

-- ---- without ink
module _ (marker : Marker) (character : ℕ) where
  nothing-set : (c : Cell) → c.pattern ≡ 0 → c.ink ≡ 0 → layer_cell marker character c ≡ sets_nothing
  unfolding layer_cell half_block_cell
  nothing-set c p q = rw (p, q, zero-mod (pattern_count marker)) (either (λ (l : LayerCell). l ≡ sets_nothing) (is_half_block marker) refl refl)

  bare-same : (c : Cell) → is_bare c ≡ true → merged_cell marker character c ≡ c
  unfolding saved_cell
  bare-same c bare =
      let none = and_parts (eqb c.pattern 0) (eqb c.ink 0) bare in
      let p = eqb-true c.pattern 0 none.0 in
      let q = eqb-true c.ink 0 none.1 in
      ap (λ (l : LayerCell). cleared_cell (laid_over l c)) (nothing-set c p q)
      ∙ ap (λ (pattern : ℕ). with_grid c pattern 0) (sym p)
      ∙ ap (λ (ink : ℕ). with_grid c c.pattern ink) (sym q)

  bare-stays : (cells : List ℕ) (i : ℕ) → i < length cells / 5 → is_bare (cell_at cells i) ≡ true → do_cell (merged_cell marker character) cells i ≡ cells
  bare-stays cells i held bare = ap (λ (c : Cell). put_cell cells i c) (bare-same (cell_at cells i) bare) ∙ put-own cells i held

  pub four-stay : (cells : List ℕ) (i : ℕ) → i + 4 ≤ length cells / 5 → ((is_bare (cell_at cells i) && is_bare (cell_at cells (i + 1))) && is_bare (cell_at cells (i + 2))) && is_bare (cell_at cells (i + 3)) ≡ true → cells ≡ do_four (merged_cell marker character) cells i
  four-stay cells i held bare =
      let b : ℕ → Bool = λ k. is_bare (cell_at cells k) in
      let f : Cell → Cell = merged_cell marker character in
      let threes = and_parts ((b i && b (i + 1)) && b (i + 2)) (b (i + 3)) bare in
      let twos = and_parts (b i && b (i + 1)) (b (i + 2)) threes.0 in
      let ones = and_parts (b i) (b (i + 1)) twos.0 in
      sym (
      ap (λ (s : List ℕ). do_cell f (do_cell f (do_cell f s (i + 1)) (i + 2)) (i + 3)) (bare-stays cells i (omega arith) ones.0)
      ∙ ap (λ (s : List ℕ). do_cell f (do_cell f s (i + 2)) (i + 3)) (bare-stays cells (i + 1) (omega arith) ones.1)
      ∙ ap (λ (s : List ℕ). do_cell f s (i + 3)) (bare-stays cells (i + 2) (omega arith) twos.1)
      ∙ bare-stays cells (i + 3) (omega arith) threes.1
      )

-- ---- by the word of the symbol
-- a cell in which a grid without backgrounds has dots, merged
abbrev pub with_word : ℕ → Cell → Cell
with_word word c = record { symbol = word; foreground = over c.ink c.foreground; background = c.background; pattern = 0; ink = 0 }

-- the background's word is not touched
pub word-laid : (cells : List ℕ) (i word : ℕ) → i < length cells / 5 →
    set (set (set (set cells (i * 5) word) (i * 5 + 1) (over (get_or cells (i * 5 + 4) 0) (get_or cells (i * 5 + 1) 0))) (i * 5 + 3) 0) (i * 5 + 4) 0 ≡ do_cell (with_word word) cells i
unfolding put_cell put_words cell_at words_at
word-laid cells i word held =
    let foreground = over (get_or cells (i * 5 + 4) 0) (get_or cells (i * 5 + 1) 0) in
    let s₁ = set cells (i * 5) word in
    let s₂ = set s₁ (i * 5 + 1) foreground in
    let kept : get_or s₂ (i * 5 + 2) 0 ≡ get_or cells (i * 5 + 2) 0 = get_or-set_other s₁ (i * 5 + 1) (i * 5 + 2) foreground 0 (λ e. omega arith) ∙ get_or-set_other cells (i * 5) (i * 5 + 2) word 0 (λ e. omega arith) in
    let same : set s₂ (i * 5 + 2) (get_or cells (i * 5 + 2) 0) ≡ s₂ = rw kept at (set-get_or s₂ (i * 5 + 2) 0) in
    simp (lt-ltb i (length cells / 5) held, same)

module _ (marker : Marker) (character count : ℕ) (whole : is_half_block marker ≡ false) (no-background : is_block marker ≡ false) (patterns : pattern_count marker ≡ count) (cells : List ℕ) (i : ℕ) (held : i < length cells / 5) where
  pub merged-nothing : get_or cells (i * 5 + 3) 0 % count ≡ 0 → do_cell cleared_cell cells i ≡ do_cell (merged_cell marker character) cells i
  unfolding saved_cell layer_cell
  merged-nothing none = rw (whole, patterns, pattern-at cells i held, none)

  pub merged-word : (word : ℕ) → (get_or cells (i * 5 + 3) 0 % count ≡ 0 → ⊥) → word ≡ suc (symbol_of marker character (get_or cells (i * 5 + 3) 0 % count)) →
      do_cell (with_word word) cells i ≡ do_cell (merged_cell marker character) cells i
  unfolding saved_cell layer_cell
  merged-word word some e = rw (whole, no-background, patterns, pattern-at cells i held, ne_eqb _ _ some, e)

-- ---- for the functions over a cell's words, those that merge cells, and those that add 1 to a symbol
pub ruleset words = (cleared-words, pattern-at, ink-at, layer-by-words, word-laid)

pub ruleset merged = (four-stay, merged-nothing, merged-word)

pub ruleset symbols = (braille-lt, read-symbol-lt)
