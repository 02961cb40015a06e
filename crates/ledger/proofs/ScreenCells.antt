-- The rendered screen, cell by cell: a loop of puts into places that are all different changes each of them once, and leaves the others.
use mathlib.Core.Path.{◌≡◌, refl, sym, ap, ap₂, ◌∙◌, subst}
use mathlib.Core.Bool.{Bool, true, false, cond, ◌&&◌}
use mathlib.Core.List.{List, [], ◌∷◌}
use Prim.Native.Nat.{ℕ, zero, suc, ◌+◌, ◌-◌, ◌*◌, ◌/◌, ◌%◌, ◌≤◌, ◌<◌}
use native.Mathlib.Omega.{arith}
use native.Mathlib.Nat.{mod-lt, div-add-mod', div-lt_iff_lt-mul, mul_comm}
use lib.Dec.{eqb, ltb, leb}
use lib.Arith.{digits_lt, digits_div, digits_mod}
use lib.ListN.{length, get_or, set, length-set}
use lib.Seq.{get_or-set_same, get_or-set_other}
use borrow.Author.Tests.{ltb-true, leb-true, eqb-true, eqb-false, eq-eqb, lt-ltb, le-leb}
use Rattle.std.specs.Prelude.{Option, Some, None}
use Rattle.std.proofs.lemmas.Bool.{and_parts}
use Rattle.floats.proofs.Cases.{true-not-false}
use Rattle.grids.specs.Lists.{foldl, over, last_word}
use Rattle.grids.specs.declared.layer.LayerCell.{LayerCell}
use Rattle.ledger.specs.Screen.{ScreenCell, cell_on, put_on, or_else, layered, Placed, covers, label_symbol, label_foreground, labelled, in_area}
use Rattle.ledger.proofs.Fitting.{fitting-byte}
use Rattle.ledger.specs.Model.{cell_count, puts, spot, picture_at, laid_screen, fitting_at, fitting, column_of, row_of, lettered, written_label, rendered_screen}
use Rattle.ledger.specs.declared.screen.Area.{Area}
use Rattle.ledger.specs.declared.state.Canvas.{Canvas}

-- ---- a cell put
length-put-on : (words : List ℕ) (j : ℕ) (c : ScreenCell) → length (put_on words j c) ≡ length words
length-put-on words j c = simp length-set

put-on-same : (words : List ℕ) (j : ℕ) (c : ScreenCell) → j * 3 + 2 < length words → cell_on (put_on words j c) j ≡ c
put-on-same words j c h =
    let s₁ : List ℕ = set words (j * 3) c.symbol in
    let s₂ : List ℕ = set s₁ (j * 3 + 1) c.foreground in
    rw (
      get_or-set_other s₂ (j * 3 + 2) (j * 3) c.background 0 (λ e. omega arith),
      get_or-set_other s₁ (j * 3 + 1) (j * 3) c.foreground 0 (λ e. omega arith),
      get_or-set_same words (j * 3) c.symbol 0 (omega arith),
      get_or-set_other s₂ (j * 3 + 2) (j * 3 + 1) c.background 0 (λ e. omega arith),
      get_or-set_same s₁ (j * 3 + 1) c.foreground 0 (simp length-set (omega arith)),
      get_or-set_same s₂ (j * 3 + 2) c.background 0 (simp length-set h),
    )

put-on-other : (words : List ℕ) (j : ℕ) (c : ScreenCell) (i : ℕ) → (i ≡ j → ⊥) → cell_on (put_on words j c) i ≡ cell_on words i
put-on-other words j c i other =
    let kept : (k : ℕ) → (k ≡ j * 3 → ⊥) → (k ≡ j * 3 + 1 → ⊥) → (k ≡ j * 3 + 2 → ⊥) → get_or (put_on words j c) k 0 ≡ get_or words k 0 = λ k h₀ h₁ h₂. simp (get_or-set_other, h₀, h₁, h₂) in
    let symbol = kept (i * 3) (λ e. omega arith) (λ e. other (omega arith)) (λ e. other (omega arith)) in
    let foreground = kept (i * 3 + 1) (omega arith) (omega arith) (omega arith) in
    let background = kept (i * 3 + 2) (omega arith) (omega arith) (omega arith) in
    λ k. record { symbol = symbol k; foreground = foreground k; background = background k }

-- ---- a loop of puts
module _ (at : ℕ → ℕ) (become : ℕ → ScreenCell → ScreenCell) (words : List ℕ) where
  pub length-puts : (n : ℕ) → length (puts at become words n) ≡ length words
  length-puts zero = refl
  length-puts (suc n) = length-put-on (puts at become words n) (at n) _ ∙ length-puts n

  puts-miss : (n j : ℕ) → ((i : ℕ) → i < n → j ≡ at i → ⊥) → cell_on (puts at become words n) j ≡ cell_on words j
  puts-miss zero j h = refl
  puts-miss (suc n) j h = put-on-other (puts at become words n) (at n) _ j (h n (omega arith)) ∙ puts-miss n j (λ i l. h i (omega arith))

  puts-hit : (n k : ℕ) → k < n → ((i : ℕ) → i < n → (i ≡ k → ⊥) → at k ≡ at i → ⊥) → at k * 3 + 2 < length words → cell_on (puts at become words n) (at k) ≡ become k (cell_on words (at k))
  puts-hit zero k l h room = absurd (omega arith)
  puts-hit (suc n) k l h room = go (eqb k n) refl (λ lt. puts-hit n k lt (λ i m d. h i (omega arith) d) room)
    where
      go : (t : Bool) → eqb k n ≡ t → (k < n → cell_on (puts at become words n) (at k) ≡ become k (cell_on words (at k))) → cell_on (puts at become words (suc n)) (at k) ≡ become k (cell_on words (at k))
      go true e ih =
          let here : k ≡ n = eqb-true k n e in
          let before : cell_on (puts at become words n) (at k) ≡ cell_on words (at k) = puts-miss n (at k) (λ i m. h i (omega arith) (omega arith)) in
          ap (λ (x : ℕ). cell_on (put_on (puts at become words n) (at x) (become x (cell_on (puts at become words n) (at x)))) (at k)) (sym here)
          ∙ put-on-same (puts at become words n) (at k) (become k (cell_on (puts at become words n) (at k))) (rw (length-puts n) room)
          ∙ ap (become k) before
      go false e ih =
          let other : k ≡ n → ⊥ = eqb-false k n e in
          put-on-other (puts at become words n) (at n) _ (at k) (h n (omega arith) (λ q. other (sym q))) ∙ ih (omega arith)

or-else-over : (x y other : ℕ) → or_else (over x y) other ≡ or_else x (or_else y other)
or-else-over zero y other = refl
or-else-over (suc x) y other = refl

-- ---- the area's places on the screen
module _ (c : Canvas) (a : Area) (across : a.x + c.columns ≤ a.columns) (down : a.y + c.rows ≤ a.rows) where
  spot-div : (column row : ℕ) → column < c.columns → spot a column row / a.columns ≡ a.y + row
  unfolding spot
  spot-div column row h = digits_div (a.y + row) (omega arith)

  spot-mod : (column row : ℕ) → column < c.columns → spot a column row % a.columns ≡ a.x + column
  unfolding spot
  spot-mod column row h = digits_mod (a.y + row) (omega arith)

  spot-lt : (column row : ℕ) → column < c.columns → row < c.rows → spot a column row < a.rows * a.columns
  unfolding spot
  spot-lt column row h k = digits_lt (omega arith) (omega arith)

  spot-once : (column row column' row' : ℕ) → column < c.columns → column' < c.columns → spot a column row ≡ spot a column' row' → (column ≡ column') × (row ≡ row')
  spot-once column row column' row' h h' e =
      let p : a.x + column ≡ a.x + column' = sym (spot-mod column row h) ∙ ap (λ (n : ℕ). n % a.columns) e ∙ spot-mod column' row' h' in
      let q : a.y + row ≡ a.y + row' = sym (spot-div column row h) ∙ ap (λ (n : ℕ). n / a.columns) e ∙ spot-div column' row' h' in
      (omega arith, omega arith)

  abbrev within : ℕ → Bool
  within j = in_area c.columns c.rows a j

  spot-within : (column row : ℕ) → column < c.columns → row < c.rows → within (spot a column row) ≡ true
  spot-within column row h k =
      rw (
        spot-div column row h,
        spot-mod column row h,
        le-leb a.x (a.x + column) (omega arith),
        lt-ltb (a.x + column - a.x) c.columns (omega arith),
        le-leb a.y (a.y + row) (omega arith),
        lt-ltb (a.y + row - a.y) c.rows (omega arith),
      )

  within-spot : (j : ℕ) → within j ≡ true → (j % a.columns - a.x < c.columns) × (j / a.columns - a.y < c.rows) × (spot a (j % a.columns - a.x) (j / a.columns - a.y) ≡ j)
  unfolding spot
  within-spot j e =
      let X : ℕ = j % a.columns in
      let Y : ℕ = j / a.columns in
      let columns-in = leb a.x X && ltb (X - a.x) c.columns in
      let rows_in = leb a.y Y && ltb (Y - a.y) c.rows in
      let ex : columns-in ≡ true = (and_parts columns-in rows_in e).0 in
      let ey : rows_in ≡ true = (and_parts columns-in rows_in e).1 in
      let p : a.x ≤ X = leb-true a.x X (and_parts (leb a.x X) _ ex).0 in
      let q : a.y ≤ Y = leb-true a.y Y (and_parts (leb a.y Y) _ ey).0 in
      let p' : a.x + (X - a.x) ≡ X = omega arith in
      let q' : a.y + (Y - a.y) ≡ Y = omega arith in
      (ltb-true (X - a.x) c.columns (and_parts (leb a.x X) _ ex).1, ltb-true (Y - a.y) c.rows (and_parts (leb a.y Y) _ ey).1, rw (p', q') (div-add-mod' j a.columns))

  -- a cell outside the area is no place of it
  outside-spot : (j column row : ℕ) → within j ≡ false → column < c.columns → row < c.rows → j ≡ spot a column row → ⊥
  outside-spot j column row e h k q = true-not-false (sym (spot-within column row h k) ∙ ap within (sym q) ∙ e)

  -- the k-th cell of the area
  cell-place : (k : ℕ) → k < cell_count c → (k % c.columns < c.columns) × (k / c.columns < c.rows)
  cell-place k h =
      let some : 0 < c.columns = positive c.columns c.rows h in
      (mod-lt k some, (div-lt_iff_lt-mul some).1 (rw (mul_comm c.rows c.columns) h))
    where
      positive : (n m : ℕ) → k < n * m → 0 < n
      positive zero m h = absurd (omega arith)
      positive (suc n) m h = omega arith

  module _ (words : List ℕ) (size : length words ≡ a.columns * a.rows * 3) where
    spot-room : (s : List ℕ) → length s ≡ length words → (column row : ℕ) → column < c.columns → row < c.rows → spot a column row * 3 + 2 < length s
    spot-room s e column row h k = omega (arith, spot-lt column row h k)

    -- ---- the picture
    module _ (cells : List ℕ) where
      abbrev placed : ℕ → ℕ
      placed k = spot a (k % c.columns) (k / c.columns)

      abbrev laid : ℕ → ScreenCell → ScreenCell
      laid k = layered c.background (picture_at cells k)

      laid-outside : (j : ℕ) → within j ≡ false → cell_on (laid_screen c cells a words) j ≡ cell_on words j
      laid-outside j e = puts-miss placed laid words (cell_count c) j (λ i l. outside-spot j (i % c.columns) (i / c.columns) e (cell-place i l).0 (cell-place i l).1)

      laid-inside : (column row : ℕ) → column < c.columns → row < c.rows → cell_on (laid_screen c cells a words) (spot a column row) ≡ laid (row * c.columns + column) (cell_on words (spot a column row))
      laid-inside column row h k =
          let i : ℕ = row * c.columns + column in
          let here : placed i ≡ spot a column row = ap₂ (spot a) (digits_mod row h) (digits_div row h) in
          let l : i < cell_count c = rw (mul_comm c.columns c.rows) (digits_lt k h) in
          subst (λ (j : ℕ). cell_on (laid_screen c cells a words) j ≡ laid i (cell_on words j)) here
          (puts-hit placed laid words (cell_count c) i l
          (λ i' l' other q.
          let t = spot-once (i % c.columns) (i / c.columns) (i' % c.columns) (i' / c.columns) (cell-place i l).0 (cell-place i' l').0 q in
          other (sym (div-add-mod' i' c.columns) ∙ ap₂ (λ (x y : ℕ). y * c.columns + x) (sym t.0) (sym t.1) ∙ div-add-mod' i c.columns))
          (spot-room words refl (i % c.columns) (i / c.columns) (cell-place i l).0 (cell-place i l).1))

    -- ---- a label
    abbrev label_from : Option (ℕ × ℕ) → ℕ → List ℕ → Placed
    label_from place word text = record { place = place; word = word; text = text }

    fitting-says : (x y n k : ℕ) → k < fitting_at c.columns c.rows (Some (x, y)) n → (y < c.rows) × (x + k < c.columns) × (k < n)
    fitting-says x y n k h = let b = fitting-byte c.columns c.rows (suc x) y n k h in (b.1, omega (arith, b), b.3)

    written-outside : (s : List ℕ) (place : Option (ℕ × ℕ)) (word : ℕ) (text : List ℕ) (j : ℕ) → within j ≡ false → cell_on (written_label c a s (label_from place word text)) j ≡ cell_on s j
    written-outside s None word text j e = refl
    written-outside s (Some (x, y)) word text j e =
        puts-miss (λ k. spot a (x + k) y) (lettered (label_from (Some (x, y)) word text)) s (fitting c (label_from (Some (x, y)) word text)) j (λ i h.
        let t = fitting-says x y (length text) i h in
        outside-spot j (x + i) y e t.1 t.0)

    written-inside : (s : List ℕ) → length s ≡ length words → (place : Option (ℕ × ℕ)) (word : ℕ) (text : List ℕ) (column row : ℕ) → column < c.columns → row < c.rows
        → cell_on (written_label c a s (label_from place word text)) (spot a column row) ≡ labelled (label_from place word text ∷ []) column row (cell_on s (spot a column row))
    written-inside s len None word text column row h k = refl
    written-inside s len (Some (x, y)) word text column row h k = go (covers (label_from (Some (x, y)) word text) column row) refl
      where
        go : (t : Bool) → covers (label_from (Some (x, y)) word text) column row ≡ t
            → cell_on (written_label c a s (label_from (Some (x, y)) word text)) (spot a column row) ≡ labelled (label_from (Some (x, y)) word text ∷ []) column row (cell_on s (spot a column row))
        go true e =
            let in_row : y ≡ row = eqb-true y row (and_parts (eqb y row) _ e).0 in
            let rest = (and_parts (eqb y row) (leb x column && ltb (column - x) (length text)) e).1 in
            let from : x ≤ column = leb-true x column (and_parts (leb x column) _ rest).0 in
            let to : column - x < length text = ltb-true (column - x) (length text) (and_parts (leb x column) _ rest).1 in
            let i : ℕ = column - x in
            let reaches : x + i ≡ column = omega arith in
            let here : spot a (x + i) y ≡ spot a column row = ap₂ (spot a) reaches in_row in
            rw e
            (subst (λ (j : ℕ). cell_on (written_label c a s (label_from (Some (x, y)) word text)) j ≡ lettered (label_from (Some (x, y)) word text) i (cell_on s j)) here
            (puts-hit (λ k. spot a (x + k) y) (lettered (label_from (Some (x, y)) word text)) s (fitting c (label_from (Some (x, y)) word text)) i
            (rw (lt-ltb y c.rows (omega arith)) (omega arith))
            (λ i' l' other q.
            let f = fitting-says x y (length text) i' l' in
            let u = spot-once (x + i) y (x + i') y (omega arith) f.1 q in
            other (omega (arith, u)))
            (spot-room s len (x + i) y (omega arith) (omega arith))))
        go false e =
            rw e
            (puts-miss (λ k. spot a (x + k) y) (lettered (label_from (Some (x, y)) word text)) s (fitting c (label_from (Some (x, y)) word text)) (spot a column row) (λ i h' q.
            let f = fitting-says x y (length text) i h' in
            let u = spot-once column row (x + i) y h f.1 q in
            true-not-false (sym (rw (eq-eqb y row (omega (arith, u)), le-leb x column (omega (arith, u)), lt-ltb (column - x) (length text) (omega (arith, u, f)))) ∙ e)))

    -- ---- the labels, one after the other
    length-written : (s : List ℕ) (l : Placed) → length (written_label c a s l) ≡ length s
    length-written s l = length-puts (λ k. spot a (column_of l.place + k) (row_of l.place)) (lettered l) s (fitting c l)

    labels-outside : (labels : List Placed) (s : List ℕ) (j : ℕ) → within j ≡ false → cell_on (foldl (written_label c a) s labels) j ≡ cell_on s j
    labels-outside [] s j e = refl
    labels-outside (l ∷ labels) s j e = labels-outside labels (written_label c a s l) j e ∙ written-outside s l.place l.word l.text j e

    labelled-cons : (l : Placed) (labels : List Placed) (column row : ℕ) (old : ScreenCell) → labelled (l ∷ labels) column row old ≡ labelled labels column row (labelled (l ∷ []) column row old)
    labelled-cons l labels column row old =
        rw (
          or-else-over (last_word (label_symbol column row) labels) (label_symbol column row l) old.symbol,
          or-else-over (last_word (label_foreground column row) labels) (label_foreground column row l) old.foreground,
        )

    labels-inside : (labels : List Placed) (s : List ℕ) → length s ≡ length words → (column row : ℕ) → column < c.columns → row < c.rows
        → cell_on (foldl (written_label c a) s labels) (spot a column row) ≡ labelled labels column row (cell_on s (spot a column row))
    labels-inside [] s len column row h k = refl
    labels-inside (l ∷ labels) s len column row h k =
        labels-inside labels (written_label c a s l) (length-written s l ∙ len) column row h k
        ∙ ap (labelled labels column row) (written-inside s len l.place l.word l.text column row h k)
        ∙ sym (labelled-cons l labels column row (cell_on s (spot a column row)))

    -- ---- the whole screen, where the store's picture is this one
    pub rendered-cell : (cells : List ℕ) (picture : ℕ → LayerCell) → ((i : ℕ) → i < cell_count c → picture_at cells i ≡ picture i) → (labels : List Placed) (j : ℕ)
        → let column : ℕ = j % a.columns - a.x in let row : ℕ = j / a.columns - a.y in
        cell_on (rendered_screen c cells labels a words) j ≡ cond (within j) (labelled labels column row (layered c.background (picture (row * c.columns + column)) (cell_on words j))) (cell_on words j)
    unfolding rendered_screen
    rendered-cell cells picture same labels j = go (within j) refl
      where
        go : (t : Bool) → within j ≡ t → let column : ℕ = j % a.columns - a.x in let row : ℕ = j / a.columns - a.y in
            cell_on (foldl (written_label c a) (laid_screen c cells a words) labels) j ≡ cond t (labelled labels column row (layered c.background (picture (row * c.columns + column)) (cell_on words j))) (cell_on words j)
        go true e =
            let column : ℕ = j % a.columns - a.x in
            let row : ℕ = j / a.columns - a.y in
            let t = within-spot j e in
            let i : ℕ = row * c.columns + column in
            subst (λ (q : ℕ). cell_on (foldl (written_label c a) (laid_screen c cells a words) labels) q ≡ labelled labels column row (layered c.background (picture i) (cell_on words q))) t.2
            (labels-inside labels (laid_screen c cells a words) (length-puts (placed cells) (laid cells) words (cell_count c)) column row t.0 t.1
            ∙ ap (labelled labels column row) (laid-inside cells column row t.0 t.1)
            ∙ ap (λ (p : LayerCell). labelled labels column row (layered c.background p (cell_on words (spot a column row)))) (same i (rw (mul_comm c.columns c.rows) (digits_lt t.1 t.0))))
        go false e = labels-outside labels (laid_screen c cells a words) j e ∙ laid-outside cells j e
