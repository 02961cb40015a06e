-- The store read after a cell is put, or after something is done to each of its first cells: word by word, then cell by cell, then by induction on the number of cells.
use mathlib.Core.Path.{◌≡◌, refl, ap, ◌∙◌}
use mathlib.Core.Bool.{Bool, true, false}
use mathlib.Core.List.{List}
use Prim.Native.Nat.{ℕ, zero, suc, ◌+◌, ◌*◌, ◌/◌, ◌≤◌, ◌<◌}
use native.Mathlib.Omega.{arith}
use lib.Dec.{eqb}
use lib.ListN.{length, get_or, set, length-set}
use lib.Seq.{get_or-set_same, get_or-set_other}
use Rattle.std.proofs.lemmas.Bool.Decides.{nat_tests}
use borrow.Author.Tests.{lt-ltb, eqb-true, eqb-false}
use Rattle.grids.specs.declared.cells.Cell.{Cell}
use Rattle.grids.specs.Cells.{words_at, put_words, cell_at, put_cell, each_cell}

-- ---- the five words of a cell
module _ (cells : List ℕ) (i : ℕ) (c : Cell) where
  length-put-words : length (put_words cells i c) ≡ length cells
  unfolding put_words
  length-put-words = simp length-set

  word-put-words : (j : ℕ) → ((k : ℕ) → k < 5 → j ≡ i * 5 + k → ⊥) → get_or (put_words cells i c) j 0 ≡ get_or cells j 0
  unfolding put_words
  word-put-words j h =
      rw (
        get_or-set_other _ (i * 5 + 4) j c.ink 0 (h 4 (omega arith)),
        get_or-set_other _ (i * 5 + 3) j c.pattern 0 (h 3 (omega arith)),
        get_or-set_other _ (i * 5 + 2) j c.background 0 (h 2 (omega arith)),
        get_or-set_other _ (i * 5 + 1) j c.foreground 0 (h 1 (omega arith)),
        get_or-set_other _ (i * 5) j c.symbol 0 (λ e. h 0 (omega arith) (omega arith)),
      )

  words-put-same : i < length cells / 5 → words_at (put_words cells i c) i ≡ c
  unfolding put_words words_at
  words-put-same h =
      let s₁ = set cells (i * 5) c.symbol in
      let s₂ = set s₁ (i * 5 + 1) c.foreground in
      let s₃ = set s₂ (i * 5 + 2) c.background in
      let s₄ = set s₃ (i * 5 + 3) c.pattern in
      rw (
        get_or-set_other _ (i * 5 + 4) (i * 5) c.ink 0 (λ e. omega arith),
        get_or-set_other _ (i * 5 + 3) (i * 5) c.pattern 0 (λ e. omega arith),
        get_or-set_other _ (i * 5 + 2) (i * 5) c.background 0 (λ e. omega arith),
        get_or-set_other _ (i * 5 + 1) (i * 5) c.foreground 0 (λ e. omega arith),
        get_or-set_same cells (i * 5) c.symbol 0 (omega arith),
        get_or-set_other _ (i * 5 + 4) (i * 5 + 1) c.ink 0 (λ e. omega arith),
        get_or-set_other _ (i * 5 + 3) (i * 5 + 1) c.pattern 0 (λ e. omega arith),
        get_or-set_other _ (i * 5 + 2) (i * 5 + 1) c.background 0 (λ e. omega arith),
        get_or-set_same s₁ (i * 5 + 1) c.foreground 0 (simp length-set (omega arith)),
        get_or-set_other _ (i * 5 + 4) (i * 5 + 2) c.ink 0 (λ e. omega arith),
        get_or-set_other _ (i * 5 + 3) (i * 5 + 2) c.pattern 0 (λ e. omega arith),
        get_or-set_same s₂ (i * 5 + 2) c.background 0 (simp length-set (omega arith)),
        get_or-set_other _ (i * 5 + 4) (i * 5 + 3) c.ink 0 (λ e. omega arith),
        get_or-set_same s₃ (i * 5 + 3) c.pattern 0 (simp length-set (omega arith)),
        get_or-set_same s₄ (i * 5 + 4) c.ink 0 (simp length-set (omega arith)),
      )

-- ---- a cell put
pub length-put : (cells : List ℕ) (i : ℕ) (c : Cell) → length (put_cell cells i c) ≡ length cells
unfolding put_cell
length-put cells i c = grind (arith, nat_tests, length-put-words)

pub cell-put-same : (cells : List ℕ) (i : ℕ) (c : Cell) → i < length cells / 5 → cell_at (put_cell cells i c) i ≡ c
unfolding cell_at put_cell
cell-put-same cells i c h =
    rw (lt-ltb i (length cells / 5) h, length-put-words cells i c, lt-ltb i (length cells / 5) h) (words-put-same cells i c h)

pub word-put-other : (cells : List ℕ) (i : ℕ) (c : Cell) (j : ℕ) → ((k : ℕ) → k < 5 → j ≡ i * 5 + k → ⊥) → get_or (put_cell cells i c) j 0 ≡ get_or cells j 0
unfolding put_cell
word-put-other cells i c j h = grind (arith, nat_tests, word-put-words cells i c j h)

pub cell-put-other : (cells : List ℕ) (i : ℕ) (c : Cell) (j : ℕ) → (j ≡ i → ⊥) → cell_at (put_cell cells i c) j ≡ cell_at cells j
unfolding cell_at words_at
cell-put-other cells i c j h =
    rw (
      length-put cells i c,
      word-put-other cells i c (j * 5) (λ k l e. h (omega arith)),
      word-put-other cells i c (j * 5 + 1) (λ k l e. h (omega arith)),
      word-put-other cells i c (j * 5 + 2) (λ k l e. h (omega arith)),
      word-put-other cells i c (j * 5 + 3) (λ k l e. h (omega arith)),
      word-put-other cells i c (j * 5 + 4) (λ k l e. h (omega arith)),
    )

-- ---- the first n cells, one after the other
pub length-each : (f : Cell → Cell) (cells : List ℕ) (n : ℕ) → length (each_cell f cells n) ≡ length cells
length-each f cells zero = refl
length-each f cells (suc k) = length-put (each_cell f cells k) k (f (cell_at (each_cell f cells k) k)) ∙ length-each f cells k

pub each-past : (f : Cell → Cell) (cells : List ℕ) (n i : ℕ) → n ≤ i → cell_at (each_cell f cells n) i ≡ cell_at cells i
each-past f cells zero i h = refl
each-past f cells (suc k) i h =
    cell-put-other (each_cell f cells k) k (f (cell_at (each_cell f cells k) k)) i (λ e. omega arith) ∙ each-past f cells k i (omega arith)

pub each_in : (f : Cell → Cell) (cells : List ℕ) (n i : ℕ) → i < n → i < length cells / 5 → cell_at (each_cell f cells n) i ≡ f (cell_at cells i)
each_in f cells zero i h held = absurd (omega arith)
each_in f cells (suc k) i h held = go (eqb i k) refl (each_in f cells k i)
  where
    before : List ℕ
    before = each_cell f cells k

    go : (t : Bool) → eqb i k ≡ t → (i < k → i < length cells / 5 → cell_at before i ≡ f (cell_at cells i)) → cell_at (put_cell before k (f (cell_at before k))) i ≡ f (cell_at cells i)
    go true e ih =
        let here : i ≡ k = eqb-true i k e in
        rw here (cell-put-same before k (f (cell_at before k)) (omega (arith, length-each f cells k)) ∙ ap f (each-past f cells k k (omega arith)))
    go false e ih = cell-put-other before k (f (cell_at before k)) i (eqb-false i k e) ∙ ih (omega (arith, eqb-false i k e)) held

pub each_at : (f : Cell → Cell) (cells : List ℕ) (n i : ℕ) → i < n → n * 5 ≤ length cells → cell_at (each_cell f cells n) i ≡ f (cell_at cells i)
each_at f cells n i h room = each_in f cells n i h (omega arith)

pub word-each-past : (f : Cell → Cell) (cells : List ℕ) (n j : ℕ) → n * 5 ≤ j → get_or (each_cell f cells n) j 0 ≡ get_or cells j 0
word-each-past f cells zero j h = refl
word-each-past f cells (suc k) j h =
    word-put-other (each_cell f cells k) k (f (cell_at (each_cell f cells k) k)) j (λ m l e. omega arith) ∙ word-each-past f cells k j (omega arith)
