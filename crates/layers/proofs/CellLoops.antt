-- Loops over the cells: one turn is one step of the definition; two passes are one; cells past the store's last change nothing; blanking by words.
use Prim.Native.Nat.{ℕ, zero, suc, ◌+◌, ◌*◌, ◌/◌, ◌%◌, ◌≤◌, ◌<◌, min}
use mathlib.Core.Path.{◌≡◌, refl, sym, ap, subst, ◌∙◌}
use mathlib.Core.Bool.{Bool, true, false}
use mathlib.Core.List.{List, ◌++◌}
use native.Mathlib.Numerals.{add-one, unary_clauses}
use native.Mathlib.Omega.{arith}
use lib.Dec.{ltb}
use lib.ListN.{length, get_or, set, take, drop, replicate, length-take}
use lib.Seq.{ext_get_or, set-get_or}
use borrow.Author.Tests.{lt-ltb, ltb-true, ltb-false}
use Rattle.std.proofs.lemmas.List.Edits.{fill_none, fill_more}
use Rattle.grids.specs.Cells.{words_at, put_words, cell_at, put_cell, do_four, blank_cell, each_cell}
use Rattle.grids.specs.declared.cells.Cell.{Cell}
use Rattle.grids.proofs.CellStore.{word-put-other, length-each, each-past, each_in}

pub each-four-next : (f : Cell → Cell) (start : List ℕ) (i : ℕ) → each_cell f start ((i + 1) * 4) ≡ do_four f (each_cell f start (i * 4)) (i * 4)
each-four-next f start i =
    let e₁ : i * 4 + 1 ≡ suc (i * 4) = omega arith in
    let e₂ : i * 4 + 2 ≡ suc (suc (i * 4)) = omega arith in
    let e₃ : i * 4 + 3 ≡ suc (suc (suc (i * 4))) = omega arith in
    let e₄ : (i + 1) * 4 ≡ suc (suc (suc (suc (i * 4)))) = omega arith in
    rw (e₄, e₁, e₂, e₃)

-- ---- two stores with the same cells, and the same words past the last, are the same
abbrev word_of : Cell → ℕ → ℕ
word_of c zero = c.symbol
word_of c (suc zero) = c.foreground
word_of c (suc (suc zero)) = c.background
word_of c (suc (suc (suc zero))) = c.pattern
word_of c (suc (suc (suc (suc r)))) = c.ink

word_at : (cells : List ℕ) (i r : ℕ) → r < 5 → get_or cells (i * 5 + r) 0 ≡ word_of (words_at cells i) r
unfolding words_at
word_at cells i zero h = simp unary_clauses
word_at cells i (suc zero) h = refl
word_at cells i (suc (suc zero)) h = refl
word_at cells i (suc (suc (suc zero))) h = refl
word_at cells i (suc (suc (suc (suc zero)))) h = refl
word_at cells i (suc (suc (suc (suc (suc r))))) h = absurd (omega arith)

pub words_of : (cells : List ℕ) (i : ℕ) → i < length cells / 5 → cell_at cells i ≡ words_at cells i
unfolding cell_at
words_of cells i h = rw (lt-ltb i (length cells / 5) h)

same_store : (a b : List ℕ) → length a ≡ length b → ((i : ℕ) → i < length a / 5 → cell_at a i ≡ cell_at b i) → ((j : ℕ) → length a / 5 * 5 ≤ j → get_or a j 0 ≡ get_or b j 0) → a ≡ b
same_store a b same inside past = ext_get_or 0 a b same (λ j h. go j (ltb (j / 5) (length a / 5)) refl)
  where
    word : (i r : ℕ) → i < length a / 5 → r < 5 → get_or a (i * 5 + r) 0 ≡ get_or b (i * 5 + r) 0
    word i r h l =
        let cells : words_at a i ≡ words_at b i = sym (words_of a i h) ∙ inside i h ∙ words_of b i (rw same at h) in
        word_at a i r l ∙ ap (λ (c : Cell). word_of c r) cells ∙ sym (word_at b i r l)

    go : (j : ℕ) (t : Bool) → ltb (j / 5) (length a / 5) ≡ t → get_or a j 0 ≡ get_or b j 0
    go j true e =
        let parts : j / 5 * 5 + j % 5 ≡ j = omega arith in
        subst (λ (k : ℕ). get_or a k 0 ≡ get_or b k 0) parts (word (j / 5) (j % 5) (ltb-true (j / 5) (length a / 5) e) (omega arith))
    go j false e = past j (omega (arith, ltb-false (j / 5) (length a / 5) e))

-- ---- the words past the last whole cell
word-put-rest : (cells : List ℕ) (i : ℕ) (c : Cell) (j : ℕ) → length cells / 5 * 5 ≤ j → get_or (put_cell cells i c) j 0 ≡ get_or cells j 0
unfolding put_cell
word-put-rest cells i c j h = go (ltb i (length cells / 5)) refl
  where
    go : (t : Bool) → ltb i (length cells / 5) ≡ t → get_or (put_cell cells i c) j 0 ≡ get_or cells j 0
    go true e = word-put-other cells i c j (λ k l e'. omega (arith, ltb-true i (length cells / 5) e))
    go false e = rw e

word-each-rest : (f : Cell → Cell) (cells : List ℕ) (n j : ℕ) → length cells / 5 * 5 ≤ j → get_or (each_cell f cells n) j 0 ≡ get_or cells j 0
word-each-rest f cells zero j h = refl
word-each-rest f cells (suc k) j h =
    let before = each_cell f cells k in
    word-put-rest before k (f (cell_at before k)) j (rw (length-each f cells k) h) ∙ word-each-rest f cells k j h

-- ---- two passes are one
pub each-each : (f g : Cell → Cell) (cells : List ℕ) (n : ℕ) → each_cell f (each_cell g cells n) n ≡ each_cell (λ c. f (g c)) cells n
each-each f g cells n = same_store twice once same inside past
  where
    between : List ℕ
    between = each_cell g cells n

    twice : List ℕ
    twice = each_cell f between n

    once : List ℕ
    once = each_cell (λ c. f (g c)) cells n

    same-between : length between ≡ length cells
    same-between = length-each g cells n

    same-twice : length twice ≡ length cells
    same-twice = length-each f between n ∙ same-between

    same : length twice ≡ length once
    same = same-twice ∙ sym (length-each (λ c. f (g c)) cells n)

    inside : (i : ℕ) → i < length twice / 5 → cell_at twice i ≡ cell_at once i
    inside i h = go (ltb i n) refl
      where
        go : (t : Bool) → ltb i n ≡ t → cell_at twice i ≡ cell_at once i
        go true e =
            let l = ltb-true i n e in
            let held : i < length cells / 5 = rw same-twice at h in
            each_in f between n i l (rw same-between held) ∙ ap f (each_in g cells n i l held) ∙ sym (each_in (λ c. f (g c)) cells n i l held)
        go false e =
            let l = ltb-false i n e in
            each-past f between n i l ∙ each-past g cells n i l ∙ sym (each-past (λ c. f (g c)) cells n i l)

    past : (j : ℕ) → length twice / 5 * 5 ≤ j → get_or twice j 0 ≡ get_or once j 0
    past j h =
        let rest : length cells / 5 * 5 ≤ j = rw same-twice at h in
        word-each-rest f between n j (rw same-between rest) ∙ word-each-rest g cells n j rest ∙ sym (word-each-rest (λ c. f (g c)) cells n j rest)

-- ---- cells past the store's last whole one change nothing
pub each-held : (f : Cell → Cell) (cells : List ℕ) (n : ℕ) → each_cell f cells (min n (length cells / 5)) ≡ each_cell f cells n
each-held f cells n = same_store few all same inside past
  where
    few : List ℕ
    few = each_cell f cells (min n (length cells / 5))

    all : List ℕ
    all = each_cell f cells n

    same-few : length few ≡ length cells
    same-few = length-each f cells (min n (length cells / 5))

    same : length few ≡ length all
    same = same-few ∙ sym (length-each f cells n)

    inside : (i : ℕ) → i < length few / 5 → cell_at few i ≡ cell_at all i
    inside i h = go (ltb i n) refl
      where
        go : (t : Bool) → ltb i n ≡ t → cell_at few i ≡ cell_at all i
        go true e =
            let l = ltb-true i n e in
            let held : i < length cells / 5 = rw same-few at h in
            each_in f cells (min n (length cells / 5)) i (omega arith) held ∙ sym (each_in f cells n i l held)
        go false e =
            let l = ltb-false i n e in
            each-past f cells (min n (length cells / 5)) i (omega arith) ∙ sym (each-past f cells n i l)

    past : (j : ℕ) → length few / 5 * 5 ≤ j → get_or few j 0 ≡ get_or all j 0
    past j h =
        let rest : length cells / 5 * 5 ≤ j = rw same-few at h in
        word-each-rest f cells (min n (length cells / 5)) j rest ∙ sym (word-each-rest f cells n j rest)

-- ---- a cell that is put back as it was
pub put-own : (cells : List ℕ) (i : ℕ) → i < length cells / 5 → put_cell cells i (cell_at cells i) ≡ cells
unfolding put_cell put_words cell_at words_at
put-own cells i h = simp (lt-ltb i (length cells / 5) h, set-get_or)

-- ---- blanking by words
abbrev zeroed : List ℕ → ℕ → List ℕ
zeroed cells zero = cells
zeroed cells (suc k) = set (zeroed cells k) k 0

zeroed-cells : (cells : List ℕ) (n : ℕ) → n ≤ length cells / 5 → zeroed cells (n * 5) ≡ each_cell (λ c. blank_cell) cells n
unfolding put_cell put_words
zeroed-cells cells zero h = refl
zeroed-cells cells (suc k) h =
    let before = each_cell (λ c. blank_cell) cells k in
    let five : suc k * 5 ≡ suc (suc (suc (suc (suc (k * 5))))) = omega arith in
    let e₁ : k * 5 + 1 ≡ suc (k * 5) = omega arith in
    let e₂ : k * 5 + 2 ≡ suc (suc (k * 5)) = omega arith in
    let e₃ : k * 5 + 3 ≡ suc (suc (suc (k * 5))) = omega arith in
    let e₄ : k * 5 + 4 ≡ suc (suc (suc (suc (k * 5)))) = omega arith in
    rw (five, zeroed-cells cells k (omega arith), lt-ltb k (length before / 5) (rw (length-each (λ c. blank_cell) cells k) (omega arith)), e₁, e₂, e₃, e₄)

zeroed-fill : (cells : List ℕ) (k : ℕ) → k ≤ length cells → zeroed cells k ≡ replicate k 0 ++ drop k cells
zeroed-fill cells zero h = fill_none cells 0
zeroed-fill cells (suc k) h = rw (zeroed-fill cells k (omega arith)) (rw add-one at (fill_more k 0 cells (omega arith)))

-- the words of the cells that the store has, filled with 0
pub blanked : (cells : List ℕ) (n : ℕ) {count : ℕ} {filled : List ℕ} → count ≡ min n (length cells / 5) → filled ≡ replicate (length (take (count * 5) cells)) 0
    → filled ++ drop (count * 5) cells ≡ each_cell (λ c. blank_cell) cells n
blanked cells n {count} {filled} held fill =
    let k : ℕ = min n (length cells / 5) in
    let size : length (take (k * 5) cells) ≡ k * 5 = simp length-take (omega arith) in
    rw (fill, held, size)
    (sym (zeroed-fill cells (k * 5) (omega arith)) ∙ zeroed-cells cells k (omega arith) ∙ each-held (λ c. blank_cell) cells n)

-- for the functions that loop over cells
pub ruleset passes = (each-four-next, each-each, each-held, blanked)
