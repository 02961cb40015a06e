-- Every cell that the ledger shows on a blank screen has a symbol below 2^21 and two colours up to Reset: a call that is accepted keeps
-- layers and labels so.
use Rattle.std.specs.Prelude.{Option, Some, None}
use Rattle.std.specs.List.{All}
use Rattle.std.proofs.lemmas.List.Elements.{All-nil, All-cons, All-head, All-tail, All-push, All-append, All-weaker, All-map}
use Prim.Native.Nat.{ℕ, zero, suc, ◌+◌, ◌-◌, ◌*◌, ◌/◌, ◌%◌, ◌^◌, ◌≤◌, ◌<◌}
use mathlib.Core.Path.{◌≡◌, refl}
use mathlib.Core.Bool.{Bool, true, false, cond, ◌&&◌, ◌||◌}
use mathlib.Core.List.{List, [], ◌∷◌, ◌++◌, map}
use native.Mathlib.Omega.{arith}
use lib.Dec.{eqb, ltb, leb}
use lib.ListN.{length, get_or}
use borrow.Author.Tests.{ltb-true, ltb-false}
use Rattle.std.proofs.lemmas.Bool.{and_parts, or_parts}
use Rattle.walk.specs.declared.bresenham.Dot as walked
use Rattle.grids.specs.Lists.{keep, over, last_word}
use Rattle.grids.specs.Markers.{marker_of, is_scalar, is_marker, is_half_block, is_block}
use Rattle.grids.specs.declared.markers.Marker.{Marker}
use Rattle.grids.specs.declared.markers.Marker.TheVariants.{Braille, Dot, Block, Bar, HalfBlock, Quadrant, Sextant}
use Rattle.grids.specs.Symbols.{symbol_of}
use Rattle.grids.specs.Dots.{Inked, in_cell, pattern_of, last_ink, is_upper, is_lower, sets_nothing, half_block_cell, set_by}
use Rattle.grids.specs.Painting.{inked}
use Rattle.grids.specs.declared.layer.LayerCell.{LayerCell}
use Rattle.grids.proofs.Cases.{either, cond-none}
use Rattle.grids.proofs.SymbolBounds.{symbol-lt}
use Rattle.view.specs.Limits.{reset, max_text}
use Rattle.view.specs.Point.{view_of}
use Rattle.ledger.specs.Screen.{cell_on, or_else, layered, covers, label_symbol, label_foreground, labelled, in_area, start_of}
use Rattle.ledger.specs.Calls.{Call, draw, points, dot, layer, marker, print, render, bad_colour, bad_shape, bad_pairs, bad_point, bad_choice, bad_byte, bad_bytes, bad_text, refusal, call_dots}
use Rattle.ledger.specs.declared.state.Opening.{Opening}
use Rattle.ledger.specs.Ledger.{Layer, Label, Ledger, layers, layer_at, picture_of, choice_word, placed_of, screen_cell, opened, accepted}
use Rattle.ledger.specs.declared.screen.Area.{Area}
use Rattle.ledger.specs.declared.screen.ScreenCell.{ScreenCell}
use Rattle.ledger.proofs.Refusals.{marker-valid}
use Rattle.report.specs.Program.{blank}
use Rattle.report.proofs.Blank.{blank-symbol, blank-colour}

-- ---- of all elements of a list

all_keep : {A : Type 0} (P : A → Type 0) (test : A → Bool) (xs : List A) → All P xs → All P (keep test xs)
all_keep P test [] h = h
all_keep P test (x ∷ xs) h =
    let rest = all_keep P test xs (All-tail P x xs h) in
    either (All P) (test x) (All-cons P x (keep test xs) (All-head P x xs h) rest) rest

over-le : (upper lower b : ℕ) → upper ≤ b → lower ≤ b → over upper lower ≤ b
over-le zero lower b h k = k
over-le (suc upper) lower b h k = h

last-le : {A : Type 0} (word : A → ℕ) (b : ℕ) (xs : List A) → All (λ x. word x ≤ b) xs → last_word word xs ≤ b
last-le word b [] h = omega arith
last-le word b (x ∷ xs) h = over-le (last_word word xs) (word x) b (last-le word b xs (All-tail (λ y. word y ≤ b) x xs h)) (All-head (λ y. word y ≤ b) x xs h)

or-else-le : (word old b : ℕ) → word ≤ suc b → old ≤ b → or_else word old ≤ b
or-else-le zero old b h k = k
or-else-le (suc value) old b h k = omega arith

-- ---- what a layer sets, by its words: a value and one more

abbrev Small : LayerCell → Type 0
Small c = (c.symbol ≤ 2 ^ 21) × (c.foreground ≤ suc reset) × (c.background ≤ suc reset)

abbrev pub Coloured : Inked → Type 0
Coloured d = suc d.ink ≤ suc reset

abbrev pub GoodLayer : Layer → Type 0
GoodLayer l = (is_marker l.marker l.character ≡ true) × All Coloured l.dots

nothing-small : Small sets_nothing
nothing-small = (omega arith, omega arith, omega arith)

half-small : (upper lower : ℕ) → upper ≤ suc reset → lower ≤ suc reset → Small (half_block_cell upper lower)
unfolding half_block_cell
half-small upper lower u l =
    either Small (eqb upper 0) (either Small (eqb lower 0) nothing-small (omega arith, l, omega arith))
    (either Small (eqb lower 0) (omega arith, u, omega arith) (either Small (eqb upper lower) (omega arith, u, l) (omega arith, u, l)))

scalar_below : (c : ℕ) → is_scalar c ≡ true → c < 2 ^ 21
scalar_below c e = go (ltb c 0xD800) refl e
  where
    go : (t : Bool) → ltb c 0xD800 ≡ t → t || (leb 0xE000 c && ltb c 0x110000) ≡ true → c < 2 ^ 21
    go true s e = omega (arith, ltb-true c 0xD800 s)
    go false s e = omega (arith, ltb-true c 0x110000 (and_parts (leb 0xE000 c) (ltb c 0x110000) e).1)

symbol-below : (m character pattern : ℕ) → is_marker m character ≡ true → symbol_of (marker_of m) character pattern < 2 ^ 21
unfolding is_marker marker_of
symbol-below m character pattern e = go (eqb m 8) refl e
  where
    Low : Marker → Type 0
    Low k = symbol_of k character pattern < 2 ^ 21

    low : 0 < 2 ^ 21
    low = omega arith

    go : (t : Bool) → eqb m 8 ≡ t → cond t (is_scalar character) (leb 1 m && ltb m 8) ≡ true → symbol_of (marker_of m) character pattern < 2 ^ 21
    go true s e = symbol-lt (marker_of m) character pattern (scalar_below character e)
    go false s e =
        rw s
        (either Low (eqb m 1) (symbol-lt Braille 0 pattern low)
        (either Low (eqb m 3) (symbol-lt Block 0 pattern low)
        (either Low (eqb m 4) (symbol-lt Bar 0 pattern low)
        (either Low (eqb m 5) (symbol-lt HalfBlock 0 pattern low)
        (either Low (eqb m 6) (symbol-lt Quadrant 0 pattern low) (either Low (eqb m 7) (symbol-lt Sextant 0 pattern low) (symbol-lt Dot 0 pattern low)))))))

ink-small : (dots : List Inked) → All Coloured dots → last_ink dots ≤ suc reset
ink-small dots h = last-le (λ (d : Inked). suc d.ink) (suc reset) dots h

set-small : (m character : ℕ) (dots : List Inked) → is_marker m character ≡ true → All Coloured dots → Small (set_by (marker_of m) character dots)
unfolding set_by
set-small m character [] e h = nothing-small
set-small m character (d ∷ dots) e h =
    let upper = keep is_upper (d ∷ dots) in
    let lower = keep is_lower (d ∷ dots) in
    either Small (is_half_block (marker_of m))
    (half-small (last_ink upper) (last_ink lower) (ink-small upper (all_keep Coloured is_upper (d ∷ dots) h)) (ink-small lower (all_keep Coloured is_lower (d ∷ dots) h))) (
      omega (arith, symbol-below m character (pattern_of (marker_of m) (d ∷ dots)) e),
      ink-small (d ∷ dots) h,
      either (λ (n : ℕ). n ≤ suc reset) (is_block (marker_of m)) (ink-small (d ∷ dots) h) (omega arith),
    )

layer-small : (columns i : ℕ) (l : Layer) → GoodLayer l → Small (layer_at columns i l)
layer-small columns i l h = set-small l.marker l.character (in_cell (marker_of l.marker) columns i l.dots) h.0 (all_keep Coloured _ l.dots h.1)

picture-small : (columns : ℕ) (ls : List Layer) (i : ℕ) → All GoodLayer ls → Small (picture_of columns ls i)
unfolding picture_of
picture-small columns ls i h = (
  last-le (λ (l : Layer). (layer_at columns i l).symbol) (2 ^ 21) ls (All-weaker GoodLayer _ (λ l g. (layer-small columns i l g).0) ls h),
  last-le (λ (l : Layer). (layer_at columns i l).foreground) (suc reset) ls (All-weaker GoodLayer _ (λ l g. (layer-small columns i l g).1) ls h),
  last-le (λ (l : Layer). (layer_at columns i l).background) (suc reset) ls (All-weaker GoodLayer _ (λ l g. (layer-small columns i l g).2) ls h),
)

-- ---- labels

abbrev pub GoodLabel : Label → Type 0
GoodLabel l = (choice_word l.choice ≤ suc reset) × ((k : ℕ) → get_or l.text k 0 ≤ 0x7E)

choice-small : (choice : Option ℕ) → bad_choice choice ≡ false → choice_word choice ≤ suc reset
choice-small None e = omega arith
choice-small (Some colour) e = omega (arith, ltb-false reset colour e)

text-small : (text : List ℕ) → bad_bytes text ≡ false → (k : ℕ) → get_or text k 0 ≤ 0x7E
unfolding bad_bytes
text-small [] e k = omega arith
text-small (byte ∷ text) e zero = ltb-false 0x7E byte (or_parts (ltb byte 0x20) (ltb 0x7E byte) (or_parts (bad_byte byte) (bad_bytes text) e).0).1
text-small (byte ∷ text) e (suc k) = text-small text (or_parts (bad_byte byte) (bad_bytes text) e).1 k

module _ (o : Opening) (column row : ℕ) (labels : List Label) (h : All GoodLabel labels) where
  label-symbols : last_word (label_symbol column row) (map (placed_of o) labels) ≤ 2 ^ 21
  label-symbols = last-le (label_symbol column row) (2 ^ 21) (map (placed_of o) labels) (All-map (λ l. label_symbol column row l ≤ 2 ^ 21) (placed_of o) labels (All-weaker GoodLabel _ one labels h))
    where
      one : (l : Label) → GoodLabel l → label_symbol column row (placed_of o l) ≤ 2 ^ 21
      one l g = either (λ (n : ℕ). n ≤ 2 ^ 21) (covers (placed_of o l) column row) (omega (arith, g.1 (column - start_of (placed_of o l).place))) (omega arith)

  label-foregrounds : last_word (label_foreground column row) (map (placed_of o) labels) ≤ suc reset
  label-foregrounds = last-le (label_foreground column row) (suc reset) (map (placed_of o) labels) (All-map (λ l. label_foreground column row l ≤ suc reset) (placed_of o) labels (All-weaker GoodLabel _ one labels h))
    where
      one : (l : Label) → GoodLabel l → label_foreground column row (placed_of o l) ≤ suc reset
      one l g = either (λ (n : ℕ). n ≤ suc reset) (covers (placed_of o l) column row) g.0 (omega arith)

-- ---- a cell of the screen

abbrev pub GoodCell : ScreenCell → Type 0
GoodCell c = (c.symbol < 2 ^ 21) × (c.foreground ≤ reset) × (c.background ≤ reset)

layered-good : (background : ℕ) (p : LayerCell) (old : ScreenCell) → background ≤ reset → Small p → GoodCell old → GoodCell (layered background p old)
layered-good background p old b s g = (
  omega (arith, or-else-le p.symbol old.symbol 2097151 (omega (arith, s.0)) (omega (arith, g.0))),
  or-else-le p.foreground old.foreground reset s.1 g.1,
  or-else-le p.background background reset s.2 b,
)

labelled-good : (o : Opening) (labels : List Label) (column row : ℕ) (old : ScreenCell) → All GoodLabel labels → GoodCell old → GoodCell (labelled (map (placed_of o) labels) column row old)
labelled-good o labels column row old h g = (
  omega (arith, or-else-le (last_word (label_symbol column row) (map (placed_of o) labels)) old.symbol 2097151 (omega (arith, label-symbols o column row labels h)) (omega (arith, g.0))),
  or-else-le (last_word (label_foreground column row) (map (placed_of o) labels)) old.foreground reset (label-foregrounds o column row labels h) g.1,
  g.2,
)

blank-good : (n j : ℕ) → GoodCell (cell_on (blank n) j)
blank-good n j = (omega (arith, blank-symbol n j), blank-colour n (j * 3 + 1), blank-colour n (j * 3 + 2))

pub screen-good : (o : Opening) (ls : List Layer) (labels : List Label) (a : Area) (n j : ℕ) → o.background ≤ reset → All GoodLayer ls → All GoodLabel labels
    → GoodCell (screen_cell o ls labels a (blank n) j)
unfolding screen_cell
screen-good o ls labels a n j b h k =
    let column = j % a.columns - a.x in
    let row = j / a.columns - a.y in
    let old = blank-good n j in
    either GoodCell (in_area o.columns o.rows a j)
    (labelled-good o labels column row (layered o.background (picture_of o.columns ls (row * o.columns + column)) (cell_on (blank n) j)) k (layered-good o.background (picture_of o.columns ls (row * o.columns + column)) (cell_on (blank n) j) b (picture-small o.columns ls (row * o.columns + column) h) old))
    old

-- ---- the ledger: a call that is accepted keeps it good

abbrev pub GoodLedger : Ledger → Type 0
GoodLedger l = All GoodLayer l.before × GoodLayer l.last × All GoodLabel l.labels

pub opened-good : (o : Opening) → is_marker o.marker o.character ≡ true → GoodLedger (opened o)
opened-good o e = (All-nil GoodLayer, (e, All-nil Coloured), All-nil GoodLabel)

pub layers-good : (l : Ledger) → GoodLedger l → All GoodLayer (layers l)
layers-good l g = All-push GoodLayer l.before l.last g.0 g.1

module _ (o : Opening) (l : Ledger) (g : GoodLedger l) where
  inked-good : (colour : ℕ) (dots : List walked.Dot) → bad_colour colour ≡ false → All Coloured (l.last.dots ++ inked colour dots)
  inked-good colour dots e = All-append Coloured l.last.dots (inked colour dots) g.1.1 (All-map Coloured _ dots (λ k d lt. omega (arith, ltb-false reset colour e)))

  abbrev dots_of : Call → List walked.Dot
  dots_of c = call_dots (view_of o.bounds o.columns o.rows (marker_of l.last.marker)) c

  pub accepted-good : (c : Call) → refusal o l.draws (length l.labels) l.last.marker c ≡ 0 → GoodLedger (accepted o l c)
  unfolding refusal
  accepted-good (draw shape colour) e = (g.0, (g.1.0, inked-good colour (dots_of (draw shape colour)) (cond-none (bad_colour colour) 2 _ (cond-none (bad_shape shape) 1 _ e).1).0), g.2)
  accepted-good (points pairs colour) e = (g.0, (g.1.0, inked-good colour (dots_of (points pairs colour)) (cond-none (bad_colour colour) 2 _ (cond-none (bad_pairs pairs) 1 _ e).1).0), g.2)
  accepted-good (dot column row colour) e = (g.0, (g.1.0, inked-good colour (dots_of (dot column row colour)) (cond-none (bad_colour colour) 2 _ e).0), g.2)
  accepted-good layer e = (layers-good l g, (g.1.0, All-nil Coloured), g.2)
  accepted-good (marker m character) e = (layers-good l g, (marker-valid o l.draws (length l.labels) l.last.marker m character e, All-nil Coloured), g.2)
  accepted-good (print x y text choice) e =
      let e₁ = cond-none (bad_choice choice) 2 _ (cond-none (bad_point x y) 1 _ e).1 in
      let e₂ = (cond-none (bad_text text) 9 _ e₁.1).0 in
      (g.0, g.1, All-push GoodLabel l.labels _ g.2 (choice-small choice e₁.0, text-small text ((or_parts (ltb max_text (length text)) (bad_bytes text) e₂).1)))
  accepted-good (render area words) e = (layers-good l g, (g.1.0, All-nil Coloured), g.2)
