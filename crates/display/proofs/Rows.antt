-- Cells of the screen side by side: what is laid on them in parts, each a slice of its own, and the rows of a canvas one after another.
use Rattle.std.proofs.Common.{◌≡◌, ℕ, zero, suc, Bool, true, ◌+◌, ◌-◌, ◌*◌, ◌/◌, ◌%◌, ◌<◌, ◌≤◌, min, false, ltb, List, ◌++◌, length, get_or, set, take, drop, length-take, length-drop, length-set, get_or-take, get_or-drop, sym, refl, ap, ◌∙◌, add-zero, add-suc, mul-le-mul, arith, ltb-true, ltb-false, le-ltb, lt-ltb, eqb-true}
use Rattle.std.proofs.lemmas.List.{take-append-drop, set-append_left, set-append_right, get_or_append_left, get_or-append_right}
use lib.Arith.{digits_div, digits_mod}
use lib.Bits.{bit_or, or_add_and, and_le_l, and_le_r}
use borrow.Author.Tests.{not-false}
use borrow.Rule.Slice.PartMut.{put_mid, post_of}
use Rattle.std.proofs.lemmas.Bool.{or_parts}
use Rattle.grids.specs.Cells.{cell_at, words_at}
use Rattle.grids.specs.declared.layer.LayerCell.{LayerCell}
use Rattle.ledger.specs.Calls.{passes_edge, bad_screen}
use Rattle.ledger.specs.Screen.{cell_on, put_on, layered}
use Rattle.ledger.specs.declared.screen.ScreenCell.{ScreenCell}
use Rattle.ledger.specs.Model.{puts, spot, picture_at}
use Rattle.ledger.specs.declared.screen.Area.{Area}
use Rattle.ledger.specs.declared.state.Canvas.{Canvas}
use Rattle.ledger.proofs.ScreenCells.{length-puts}
use Rattle.ledger.proofs.Written.{puts-same}

-- what a cell that no layer set has
abbrev pub nothing : LayerCell
nothing = record { symbol = 0; foreground = 0; background = 0 }

pub or_zero : (a b : ℕ) → bit_or a b ≡ 0 → (a ≡ 0) × (b ≡ 0)
or_zero a b e = (omega (arith, or_add_and a b, and_le_r a b), omega (arith, or_add_and a b, and_le_l a b))

pub length-part : (l : List ℕ) (a k : ℕ) → a + k ≤ length l → length (take k (drop a l)) ≡ k
length-part l a k h = simp (length-take, length-drop) (omega arith)

-- ---- a cell of the store
pub cell_held : (cells : List ℕ) (i : ℕ) → i * 5 + 5 ≤ length cells → cell_at cells i ≡ words_at cells i
unfolding cell_at
cell_held cells i h = rw (lt-ltb i (length cells / 5) (omega arith))

pub picture-past : (cells : List ℕ) (i : ℕ) → length cells < i * 5 + 5 → picture_at cells i ≡ nothing
unfolding cell_at
picture-past cells i h = let e : length cells / 5 ≤ i = omega arith in rw (le-ltb i (length cells / 5) e)

picture-words : (cells : List ℕ) (i : ℕ) → i * 5 + 5 ≤ length cells
    → picture_at cells i ≡ record { symbol = get_or cells (i * 5) 0; foreground = get_or cells (i * 5 + 1) 0; background = get_or cells (i * 5 + 2) 0 }
unfolding words_at
picture-words cells i h = rw (cell_held cells i h)

module _ (cells : List ℕ) where
  -- cells without a word
  pub picture-nothing : ((k : ℕ) → k < length cells → get_or cells k 0 ≡ 0) → (i : ℕ) → picture_at cells i ≡ nothing
  picture-nothing none i = go (ltb (length cells) (i * 5 + 5)) refl
    where
      go : (t : Bool) → ltb (length cells) (i * 5 + 5) ≡ t → picture_at cells i ≡ nothing
      go true e = picture-past cells i (ltb-true _ _ e)
      go false e =
          let h : i * 5 + 5 ≤ length cells = ltb-false _ _ e in
          picture-words cells i h ∙ rw (none (i * 5) (omega arith), none (i * 5 + 1) (omega arith), none (i * 5 + 2) (omega arith))

  -- a cell of the k words from the word a on, where these hold it or go to the end
  pub picture-part : (a k from i : ℕ) → a ≡ min (from * 5) (length cells) → min (i * 5 + 5) (length cells - a) ≤ k → picture_at (take k (drop a cells)) i ≡ picture_at cells (from + i)
  picture-part a k from i e f =
      go (ltb (length cells) ((from + i) * 5 + 5)) refl
    where
      part : List ℕ
      part = take k (drop a cells)

      long : length (take k (drop a cells)) ≡ min k (length cells - a)
      long = simp (length-take, length-drop) refl

      word : from * 5 ≤ length cells → (x y j : ℕ) → x ≡ i * 5 + j → y ≡ (from + i) * 5 + j → x < k → get_or (take k (drop a cells)) x 0 ≡ get_or cells y 0
      word h x y j p q l =
          let there : a + x ≡ y = omega arith in
          get_or-take k (drop a cells) x 0 l ∙ get_or-drop a cells x 0 ∙ ap (λ (z : ℕ). get_or cells z 0) there

      go : (t : Bool) → ltb (length cells) ((from + i) * 5 + 5) ≡ t → picture_at (take k (drop a cells)) i ≡ picture_at cells (from + i)
      go true g =
          let h = ltb-true _ _ g in
          picture-past (take k (drop a cells)) i (rw long (omega arith)) ∙ sym (picture-past cells (from + i) h)
      go false g =
          let h = ltb-false _ _ g in
          let l : from * 5 ≤ length cells = omega arith in
          picture-words (take k (drop a cells)) i (rw long (omega arith))
          ∙ rw (word l (i * 5) ((from + i) * 5) 0 (omega arith) (omega arith) (omega arith), word l (i * 5 + 1) ((from + i) * 5 + 1) 1 (omega arith) (omega arith) (omega arith), word l (i * 5 + 2) ((from + i) * 5 + 2) 2 (omega arith) (omega arith) (omega arith))
          (sym (picture-words cells (from + i) h))

-- ---- a write into a part of the screen
module _ (words : List ℕ) (a k : ℕ) (within : a ≤ length words) where
  before : length (take a words) ≡ a
  before = simp length-take (omega arith)

  set-part : (ys : List ℕ) (x y v : ℕ) → x ≡ a + y → y < length ys → set (put_mid a k words ys) x v ≡ put_mid a k words (set ys y v)
  set-part ys x y v e h =
      let i : x - a ≡ y = omega arith in
      set-append_right (take a words) (ys ++ post_of a k words) a x v before (omega arith)
      ∙ rw (i, set-append_left ys (post_of a k words) y v h)

  get-part : (ys : List ℕ) (x y : ℕ) → x ≡ a + y → y < length ys → get_or (put_mid a k words ys) x 0 ≡ get_or ys y 0
  get-part ys x y e h =
      let i : x - a ≡ y = omega arith in
      get_or-append_right (take a words) (ys ++ post_of a k words) a x 0 before (omega arith)
      ∙ rw (i, get_or_append_left ys (post_of a k words) 0 y h)

  -- a cell of the part
  module _ (at : ℕ) (e : a ≡ at * 3) where
    on-part : (ys : List ℕ) (j : ℕ) → j * 3 + 3 ≤ length ys → cell_on (put_mid a k words ys) (at + j) ≡ cell_on ys j
    on-part ys j h = rw (
      get-part ys ((at + j) * 3) (j * 3) (omega arith) (omega arith),
      get-part ys ((at + j) * 3 + 1) (j * 3 + 1) (omega arith) (omega arith),
      get-part ys ((at + j) * 3 + 2) (j * 3 + 2) (omega arith) (omega arith),
    )

    put-part : (ys : List ℕ) (j : ℕ) (c : ScreenCell) → j * 3 + 3 ≤ length ys → put_on (put_mid a k words ys) (at + j) c ≡ put_mid a k words (put_on ys j c)
    put-part ys j c h = rw (
      set-part ys ((at + j) * 3) (j * 3) c.symbol (omega arith) (omega arith),
      set-part (set ys (j * 3) c.symbol) ((at + j) * 3 + 1) (j * 3 + 1) c.foreground (omega arith) (simp length-set (omega arith)),
      set-part (set (set ys (j * 3) c.symbol) (j * 3 + 1) c.foreground) ((at + j) * 3 + 2) (j * 3 + 2) c.background (omega arith) (simp length-set (omega arith)),
    )

    -- puts into the part are puts into the screen
    pub puts-part : (become : ℕ → ScreenCell → ScreenCell) (n : ℕ) → n * 3 ≤ k → a + k ≤ length words
        → put_mid a k words (puts (λ i. i) become (take k (drop a words)) n) ≡ puts (λ i. at + i) become words n
    puts-part become zero h room = rw (take-append-drop k (drop a words), take-append-drop a words)
    puts-part become (suc n) h room =
        let p : List ℕ = puts (λ i. i) become (take k (drop a words)) n in
        let ih : put_mid a k words p ≡ puts (λ i. at + i) become words n = puts-part become n (omega arith) room in
        let long : n * 3 + 3 ≤ length p = rw (length-puts (λ i. i) become (take k (drop a words)) n) (simp (length-take, length-drop) (omega arith)) in
        sym (put-part p n (become n (cell_on p n)) long)
        ∙ rw (← on-part p n long, ih)

-- ---- puts, one stretch after another
puts-add : (at : ℕ → ℕ) (become : ℕ → ScreenCell → ScreenCell) (words : List ℕ) (m n : ℕ) → puts (λ i. at (m + i)) (λ i. become (m + i)) (puts at become words m) n ≡ puts at become words (m + n)
puts-add at become words m zero = ap (puts at become words) (sym (add-zero m))
puts-add at become words m (suc n) = rw (puts-add at become words m n) (ap (puts at become words) (sym (add-suc m n)))

-- the next n cells, laid in a part of their own
pub next-part : (background : ℕ) (pictures own : ℕ → LayerCell) (words screen : List ℕ) (a k m n whole : ℕ) → a ≡ m * 3 → n * 3 ≤ k → a + k ≤ length screen → whole ≡ m + n
    → screen ≡ puts (λ i. i) (λ i. layered background (pictures i)) words m → ((i : ℕ) → i < n → own i ≡ pictures (m + i))
    → put_mid a k screen (puts (λ i. i) (λ i. layered background (own i)) (take k (drop a screen)) n) ≡ puts (λ i. i) (λ i. layered background (pictures i)) words whole
next-part background pictures own words screen a k m n whole e h room all s same =
    puts-part screen a k (omega arith) m e (λ i. layered background (own i)) n h room
    ∙ puts-same (λ i. m + i) (λ i. m + i) (λ i. layered background (own i)) (λ i. layered background (pictures (m + i))) screen n (λ i l. refl) (λ i l old. ap (λ (p : LayerCell). layered background p old) (same i l))
    ∙ rw (s, all) (puts-add (λ i. i) (λ i. layered background (pictures i)) words m n)

-- ---- the rows one after another
module _ (columns rows : ℕ) (a : Area) (words : List ℕ) (edge : passes_edge columns rows a ≡ false) (good : bad_screen a words ≡ false) where
  pub row_in_screen : (row : ℕ) → row < rows → (spot a 0 row + columns) * 3 ≤ length words
  unfolding spot
  row_in_screen row h =
      let right : a.x + columns ≤ a.columns = ltb-false _ _ (or_parts _ _ edge).0 in
      let bottom : a.y + rows ≤ a.rows = ltb-false _ _ (or_parts (ltb a.columns (a.x + columns)) _ edge).1 in
      let n : length words ≡ a.columns * a.rows * 3 = eqb-true _ _ (not-false _ good) in
      omega (arith, mul-le-mul {n₁ = a.y + row + 1} {m₁ = a.columns} {n₂ = a.rows} {m₂ = a.columns} (omega arith) (omega arith))

module _ (c : Canvas) (cells : List ℕ) (a : Area) (words : List ℕ) where
  abbrev placed : ℕ → ℕ
  placed k = spot a (k % c.columns) (k / c.columns)

  abbrev laid : ℕ → ScreenCell → ScreenCell
  laid k = layered c.background (picture_at cells k)

  -- the digits of a cell's number are its column and row
  row-place : (row column : ℕ) → column < c.columns → spot a 0 row + column ≡ placed (row * c.columns + column)
  unfolding spot
  row-place row column h = rw (digits_mod row h, digits_div row h) (omega arith)

  -- the next row, laid in a part of its own
  pub row_next : (row at from k f : ℕ) (screen : List ℕ) → at ≡ spot a 0 row * 3 → from ≡ min (row * c.columns * 5) (length cells) → k ≡ c.columns * 3 → at + k ≤ length screen
      → f ≡ min (from + c.columns * 5) (length cells) - from
      → screen ≡ puts placed laid words (row * c.columns)
      → put_mid at k screen (puts (λ i. i) (λ i. layered c.background (picture_at (take f (drop from cells)) i)) (take k (drop at screen)) c.columns) ≡ puts placed laid words ((row + 1) * c.columns)
  row_next row at from k f screen e g w room few s =
      let n : ℕ = row * c.columns in
      let all : (row + 1) * c.columns ≡ n + c.columns = omega arith in
      puts-part screen at k (omega arith) (spot a 0 row) e (λ i. layered c.background (picture_at (take f (drop from cells)) i)) c.columns (omega arith) room
      ∙ puts-same (λ i. spot a 0 row + i) (λ i. placed (n + i)) (λ i. layered c.background (picture_at (take f (drop from cells)) i)) (λ i. laid (n + i)) screen c.columns (row-place row)
      (λ i l old. ap (λ (p : LayerCell). layered c.background p old) (picture-part cells from f n i g (omega arith)))
      ∙ rw (s, all) (puts-add placed laid words n c.columns)
