-- A label written byte by byte from the words of its store is the label of that store, written; and the cells of the labels held.
use mathlib.Core.Path.{◌≡◌, refl, sym, ap, ap₂, ◌∙◌}
use mathlib.Core.Bool.{false}
use mathlib.Core.List.{List, [], ◌∷◌, ◌++◌}
use Prim.Native.Nat.{ℕ, zero, suc, ◌+◌, ◌-◌, ◌*◌, ◌/◌, ◌%◌, ◌^◌, ◌≤◌, ◌<◌, min}
use native.Mathlib.Omega.{arith}
use native.Mathlib.Nat.{add_assoc}
use native.Mathlib.Numerals.{add-one}
use lib.ListN.{length, get_or, take, drop, length-take, length-drop}
use Rattle.std.proofs.lemmas.List.{get_or-take, get_or-drop}
use Rattle.grids.specs.Lists.{foldl}
use Rattle.grids.proofs.Words.{foldl-append}
use Rattle.ledger.specs.Calls.{passes_edge, bad_screen}
use Rattle.ledger.specs.Screen.{ScreenCell, cell_on, put_on, or_else, Placed}
use Rattle.ledger.specs.Labels.{place_of, words_from, label_at, held_labels}
use Rattle.ledger.specs.Model.{puts, spot, fitting, fitting_at, column_of, row_of, lettered, written_label, label_cells}
use Rattle.ledger.specs.declared.state.Canvas.{Canvas}
use Rattle.ledger.specs.declared.screen.Area.{Area}
use Rattle.ledger.proofs.Spots.{spot-next, spot-in-screen}
use Rattle.ledger.proofs.Fitting.{fitting-byte, fitting-at-most}

-- ---- words read one after the other

length-words : (labels : List ℕ) (i n : ℕ) → length (words_from labels i n) ≡ n
length-words labels i zero = refl
length-words labels i (suc n) = ap suc (length-words labels (suc i) n)

word-from : (labels : List ℕ) (i n j : ℕ) → j < n → get_or (words_from labels i n) j 0 ≡ get_or labels (i + j) 0
word-from labels i zero j h = absurd (omega arith)
word-from labels i (suc n) zero h = let e : i + 0 ≡ i = omega arith in rw e
word-from labels i (suc n) (suc j) h = let e : i + suc j ≡ suc i + j = omega arith in rw e (word-from labels (suc i) n j (omega arith))

-- ---- puts

pub puts-same : (at at' : ℕ → ℕ) (become become' : ℕ → ScreenCell → ScreenCell) (words : List ℕ) (n : ℕ)
    → ((j : ℕ) → j < n → at j ≡ at' j) → ((j : ℕ) → j < n → (old : ScreenCell) → become j old ≡ become' j old)
    → puts at become words n ≡ puts at' become' words n
puts-same at at' become become' words zero e f = refl
puts-same at at' become become' words (suc n) e f =
    let p : puts at become words n ≡ puts at' become' words n = puts-same at at' become become' words n (λ j h. e j (omega arith)) (λ j h. f j (omega arith)) in
    let q : at n ≡ at' n = e n (omega arith) in
    let r : become n (cell_on (puts at become words n) (at n)) ≡ become' n (cell_on (puts at' become' words n) (at' n)) =
    f n (omega arith) (cell_on (puts at become words n) (at n)) ∙ ap₂ (λ (s : List ℕ) (i : ℕ). become' n (cell_on s i)) p q in
    λ i. put_on (p i) (q i) (r i)

-- ---- a label

column-of : (word row : ℕ) → 1 ≤ word → word - 1 ≡ column_of (place_of word row)
column-of zero row h = absurd (omega arith)
column-of (suc column) row h = omega arith

row-of : (word row : ℕ) → 1 ≤ word → row ≡ row_of (place_of word row)
row-of zero row h = absurd (omega arith)
row-of (suc column) row h = refl

-- a byte of a label, over what was there
abbrev pub byte_of : List ℕ → ℕ → ℕ → ScreenCell → ScreenCell
byte_of bytes word j old = record { symbol = get_or bytes j 0; foreground = or_else word old.foreground; background = old.background }

-- the words of the label k, and of these the first n bytes
abbrev pub label_part : List ℕ → ℕ → List ℕ
label_part labels k = take (k * 44 + 44 - k * 44) (drop (k * 44) labels)

abbrev pub byte_part : List ℕ → ℕ → List ℕ
byte_part part n = take (4 + n - 4) (drop 4 part)

module _ (labels : List ℕ) (k : ℕ) (c : Canvas) where
  abbrev at : ℕ
  at = k * 44

  pub fitting-of : fitting c (label_at labels k) ≡ fitting_at c.columns c.rows (place_of (get_or labels at 0) (get_or labels (at + 1) 0)) (min 40 (get_or labels (at + 3) 0))
  unfolding label_at
  fitting-of = rw length-words

  -- a byte that fits
  fits : (j : ℕ) → j < fitting c (label_at labels k)
      → (1 ≤ get_or labels at 0) × (get_or labels (at + 1) 0 < c.rows) × (get_or labels at 0 - 1 + j < c.columns) × (j < min 40 (get_or labels (at + 3) 0))
  fits j h = fitting-byte c.columns c.rows _ _ _ j (rw fitting-of at h)

  fitting-few : fitting c (label_at labels k) ≤ 40
  fitting-few = rw fitting-of (omega (arith, fitting-at-most c.columns c.rows (get_or labels at 0) (get_or labels (at + 1) 0) (min 40 (get_or labels (at + 3) 0))))

  module _ (room : at + 44 ≤ length labels) where
    abbrev part : List ℕ
    part = label_part labels k

    word-of : (i : ℕ) → i < 44 → get_or part i 0 ≡ get_or labels (at + i) 0
    word-of i h = let e : at + 44 - at ≡ 44 = omega arith in rw (e, get_or-take, get_or-drop)

    first_word : get_or part 0 0 ≡ get_or labels at 0
    first_word = let e : at + 0 ≡ at = omega arith in word-of 0 (omega arith) ∙ rw e

    long : length part ≡ 44
    long = simp (length-take, length-drop) (omega arith)

    pub fitting-by : fitting_at c.columns c.rows (place_of (get_or part 0 0) (get_or part 1 0)) (min (get_or part 3 0) 40) ≡ fitting c (label_at labels k)
    fitting-by =
        let e : min (get_or labels (at + 3) 0) 40 ≡ min 40 (get_or labels (at + 3) 0) = omega arith in
        rw (first_word, word-of 1 (omega arith), word-of 3 (omega arith), e) (sym fitting-of)

    length-bytes : (n : ℕ) → n ≡ fitting c (label_at labels k) → length (byte_part part n) ≡ n
    length-bytes n e = let l = long in let f = fitting-few in simp (length-take, length-drop) (omega arith)

    byte-of : (n j : ℕ) → n ≡ fitting c (label_at labels k) → j < n → get_or (byte_part part n) j 0 ≡ get_or labels (at + 4 + j) 0
    byte-of n j e h =
        let f = fitting-few in
        let d : 4 + n - 4 ≡ n = omega arith in
        let t : get_or (byte_part part n) j 0 ≡ get_or part (4 + j) 0 = rw (d, get_or-take n (drop 4 part) j 0 h, get_or-drop 4 part j 0) in
        t ∙ word-of (4 + j) (omega (arith, f)) ∙ rw add_assoc

    pub written-by : (a : Area) (words : List ℕ) (n : ℕ) → n ≡ fitting c (label_at labels k)
        → puts (λ j. spot a (get_or part 0 0 - 1) (get_or part 1 0) + j) (byte_of (byte_part part n) (get_or part 2 0)) words (length (byte_part part n)) ≡ written_label c a words (label_at labels k)
    unfolding label_at
    written-by a words n e =
        rw (length-bytes n e, first_word, word-of 1 (omega arith), word-of 2 (omega arith), e)
        (puts-same _ _ _ _ words (fitting c (label_at labels k))
        (λ j h. let b = fits j h in spot-next a (get_or labels at 0 - 1) (get_or labels (at + 1) 0) j ∙ ap₂ (λ (p q : ℕ). spot a (p + j) q) (column-of _ _ b.0) (row-of _ _ b.0))
        (λ j h old i. record {
          symbol = (byte-of (fitting c (label_at labels k)) j refl h ∙ sym (word-from labels (at + 4) _ j (fits j h).3)) i;
          foreground = or_else (get_or labels (at + 2) 0) old.foreground;
          background = old.background;
        }))

    -- the bytes that fit are on the screen: one that is not has none
    label-in-screen : (a : Area) (words : List ℕ) (n : ℕ) → passes_edge c.columns c.rows a ≡ false → bad_screen a words ≡ false → n ≡ fitting c (label_at labels k) → 0 < n
        → spot a (get_or part 0 0 - 1) (get_or part 1 0) + length (byte_part part n) ≤ length words / 3
    label-in-screen a words n edge good e some =
        let b = fits (n - 1) (omega arith) in
        let p = spot-next a (get_or labels at 0 - 1) (get_or labels (at + 1) 0) (n - 1) in
        rw (length-bytes n e, first_word, word-of 1 (omega arith)) (omega (arith, p, spot-in-screen c.columns c.rows a words edge good _ _ b.2 b.1))

    pub label-off : (a : Area) (words : List ℕ) (n : ℕ) → passes_edge c.columns c.rows a ≡ false → bad_screen a words ≡ false → n ≡ fitting c (label_at labels k)
        → length words / 3 < spot a (get_or part 0 0 - 1) (get_or part 1 0) + length (byte_part part n) → words ≡ written_label c a words (label_at labels k)
    label-off a words zero edge good e beyond =
        let l = label_at labels k in
        ap (λ (n : ℕ). puts (λ j. spot a (column_of l.place + j) (row_of l.place)) (lettered l) words n) e
    label-off a words (suc n) edge good e beyond = absurd (omega (arith, beyond, label-in-screen a words (suc n) edge good e (omega arith)))

-- both, for `write_label`
pub ruleset label_writing = (fitting-by, label-off)

-- ---- the labels held

label-cells-snoc : (c : Canvas) (ls : List Placed) (l : Placed) → label_cells c (ls ++ (l ∷ [])) ≡ label_cells c ls + fitting c l
label-cells-snoc c [] l = omega arith
label-cells-snoc c (m ∷ ls) l = omega (arith, label-cells-snoc c ls l)

module _ (c : Canvas) (labels : List ℕ) where
  label-cells-next : (k : ℕ) → label_cells c (held_labels labels (suc k)) ≡ label_cells c (held_labels labels k) + fitting c (label_at labels k)
  label-cells-next k = label-cells-snoc c (held_labels labels k) (label_at labels k)

  fitting-at-most-40 : (k : ℕ) → fitting c (label_at labels k) ≤ 40
  fitting-at-most-40 k = fitting-few labels k c

  label-cells-at-most : (k : ℕ) → label_cells c (held_labels labels k) ≤ 40 * k
  label-cells-at-most zero = omega arith
  label-cells-at-most (suc k) = omega (arith, label-cells-next k, fitting-at-most-40 k, label-cells-at-most k)

  -- one more label counted, whose sum does not wrap, and written
  pub count_next : (k count n next : ℕ) → k < 64 → count ≡ label_cells c (held_labels labels k) → n ≡ fitting c (label_at labels k) → next ≡ (count + n) % 2 ^ 32
      → next ≡ label_cells c (held_labels labels (k + 1))
  count_next k count n next h e f g = rw (add-one k) (omega (arith, label-cells-next k, fitting-at-most-40 k, label-cells-at-most k))

  pub written_next : (a : Area) (words screen next : List ℕ) (k : ℕ) → screen ≡ foldl (written_label c a) words (held_labels labels k) → next ≡ written_label c a screen (label_at labels k)
      → next ≡ foldl (written_label c a) words (held_labels labels (k + 1))
  written_next a words screen next k e f = f ∙ rw (e, add-one k) (sym (foldl-append (written_label c a) words (held_labels labels k) (label_at labels k ∷ [])))
