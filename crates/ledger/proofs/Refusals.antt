-- What it says of an opening or of a call that it is not refused: no condition in the chain of its refusals holds.
use mathlib.Core.Path.{◌≡◌, refl}
use mathlib.Core.Bool.{true, false, not, ◌&&◌, ◌||◌}
use mathlib.Core.List.{List}
use Prim.Native.Nat.{ℕ, ◌+◌, ◌*◌, ◌≤◌, ◌<◌}
use lib.Dec.{ltb, leb}
use lib.Ieee.{Float}
use lib.ListN.{length}
use borrow.Author.Tests.{ltb-false, leb-true, leb-false, lt-leb, eqb-true, not-false}
use Rattle.std.specs.Prelude.{Option}
use Rattle.std.proofs.lemmas.Bool.{and_parts, or_parts}
use Rattle.grids.specs.Markers.{is_marker}
use Rattle.grids.proofs.Cases.{cond-none}
use Rattle.view.specs.Limits.{max_columns, max_rows, max_draws, max_pairs, max_labels, max_text}
use Rattle.walk.specs.declared.clip.Pair.{Pair}
use Rattle.ledger.specs.Calls.{Call, draw, points, dot, layer, marker, print, render, bad_size, bad_bounds, bad_colour, bad_shape, bad_pairs, bad_point, bad_choice, bad_text, bad_bytes, passes_edge, bad_screen, refusal, open_refusal}
use Rattle.ledger.specs.declared.state.Opening.{Opening}
use Rattle.shapes.specs.declared.painters.Shape.{Shape}
use Rattle.ledger.specs.declared.screen.Area.{Area}
use Rattle.ledger.proofs.DotCounts.{FewPairs}

-- the calls that paint, and that print
pub data Paints : Call → Type 0 where
  by-draw : (shape : Shape) (colour : ℕ) → Paints (draw shape colour)
  by-points : (list : List Pair) (colour : ℕ) → Paints (points list colour)
  by-dot : (column row colour : ℕ) → Paints (dot column row colour)

pub data Prints : Call → Type 0 where
  by-print : (x y : Float) (text : List ℕ) (choice : Option ℕ) → Prints (print x y text choice)

-- ---- an opening
pub record GoodOpening (o : Opening) : Type 0 where
  pub size : bad_size o.columns o.rows ≡ false
  pub bounds : bad_bounds o.bounds ≡ false
  pub colour : bad_colour o.background ≡ false
  pub marker : is_marker o.marker o.character ≡ true

pub size-within : (o : Opening) → GoodOpening o → (o.columns ≤ max_columns) × (o.rows ≤ max_rows)
size-within o good =
    let both = not-false _ good.size in (
      leb-true o.columns max_columns (and_parts (leb 1 o.columns) _ (and_parts (leb 1 o.columns && leb o.columns max_columns) _ both).0).1,
      leb-true o.rows max_rows (and_parts (leb 1 o.rows) _ (and_parts (leb 1 o.columns && leb o.columns max_columns) _ both).1).1,
    )

pub open-accepted : (o : Opening) (cells labels : ℕ) → open_refusal o cells labels ≡ 0 → GoodOpening o × (o.columns * o.rows * 5 ≤ cells) × (max_labels * 44 ≤ labels)
unfolding open_refusal
open-accepted o cells labels e =
    let e₁ = cond-none (bad_size o.columns o.rows) 0 _ e in
    let e₂ = cond-none (bad_bounds o.bounds) 1 _ e₁.1 in
    let e₃ = cond-none (bad_colour o.background) 2 _ e₂.1 in
    let e₄ = cond-none (not (is_marker o.marker o.character)) 3 _ e₃.1 in
    let short = (cond-none (ltb cells (o.columns * o.rows * 5) || ltb labels (max_labels * 44)) 4 _ e₄.1).0 in (
      record { size = e₁.0; bounds = e₂.0; colour = e₃.0; marker = not-false _ e₄.0 },
      ltb-false cells (o.columns * o.rows * 5) (or_parts (ltb cells (o.columns * o.rows * 5)) _ short).0,
      ltb-false labels (max_labels * 44) (or_parts (ltb cells (o.columns * o.rows * 5)) _ short).1,
    )

-- ---- a call
module _ (o : Opening) (held n m : ℕ) where
  pub paints-room : {c : Call} → Paints c → refusal o held n m c ≡ 0 → held < max_draws
  unfolding refusal
  paints-room (by-draw shape colour) e = leb-false max_draws held (cond-none (leb max_draws held) 6 _ (cond-none (bad_colour colour) 2 _ (cond-none (bad_shape shape) 1 _ e).1).1).0
  paints-room (by-points list colour) e = leb-false max_draws held (cond-none (leb max_draws held) 6 _ (cond-none (bad_colour colour) 2 _ (cond-none (bad_pairs list) 1 _ e).1).1).0
  paints-room (by-dot column row colour) e = leb-false max_draws held (cond-none (leb max_draws held) 6 _ (cond-none (bad_colour colour) 2 _ e).1).0

  pub paints-few : {c : Call} → Paints c → refusal o held n m c ≡ 0 → FewPairs c
  unfolding refusal
  paints-few (by-draw shape colour) e = tt
  paints-few (by-points list colour) e =
      ltb-false max_pairs (length list)
      (cond-none (ltb max_pairs (length list)) 7 _ (cond-none (leb max_draws held) 6 _ (cond-none (bad_colour colour) 2 _ (cond-none (bad_pairs list) 1 _ e).1).1).1).0
  paints-few (by-dot column row colour) e = tt

  pub marker-valid : (number character : ℕ) → refusal o held n m (marker number character) ≡ 0 → is_marker number character ≡ true
  unfolding refusal
  marker-valid number character e = not-false _ (cond-none (not (is_marker number character)) 3 _ e).0

  pub print-fits : (x y : Float) (text : List ℕ) (choice : Option ℕ) → refusal o held n m (print x y text choice) ≡ 0 → (length text ≤ max_text) × (n < max_labels)
  unfolding refusal
  print-fits x y text choice e =
      let e₁ = cond-none (bad_text text) 9 _ (cond-none (bad_choice choice) 2 _ (cond-none (bad_point x y) 1 _ e).1).1 in (
        ltb-false max_text (length text) (or_parts (ltb max_text (length text)) (bad_bytes text) e₁.0).0,
        leb-false max_labels n (cond-none (leb max_labels n) 10 _ e₁.1).0,
      )

  pub render-fits : (area : Area) (words : List ℕ) → refusal o held n m (render area words) ≡ 0
      → (area.x + o.columns ≤ area.columns) × (area.y + o.rows ≤ area.rows) × (length words ≡ area.columns * area.rows * 3)
  unfolding refusal
  render-fits area words e =
      let e₁ = cond-none (passes_edge o.columns o.rows area) 11 _ e in
      let e₂ = cond-none (bad_screen area words) 12 _ e₁.1 in (
        ltb-false area.columns (area.x + o.columns) (or_parts (ltb area.columns (area.x + o.columns)) _ e₁.0).0,
        ltb-false area.rows (area.y + o.rows) (or_parts (ltb area.columns (area.x + o.columns)) _ e₁.0).1,
        eqb-true (length words) (area.columns * area.rows * 3) (not-false _ e₂.0),
      )

-- a painting call goes by the draws held and by no label
pub paints-again : (o : Opening) (held n m held' n' : ℕ) {c : Call} → Paints c → refusal o held n m c ≡ 0 → held' < max_draws → refusal o held' n' m c ≡ 0
unfolding refusal
paints-again o held n m held' n' p e room = go p (lt-leb max_draws held (paints-room o held n m p e)) e
  where
    go : {c : Call} → Paints c → leb max_draws held ≡ false → refusal o held n m c ≡ 0 → refusal o held' n' m c ≡ 0
    go (by-draw shape colour) was e = rw (lt-leb max_draws held' room) (rw was at e)
    go (by-points list colour) was e = rw (lt-leb max_draws held' room) (rw was at e)
    go (by-dot column row colour) was e = rw (lt-leb max_draws held' room) (rw was at e)

-- of the opening a call goes by the size alone
pub refusal-by-size : (o o' : Opening) (held n m : ℕ) (c : Call) → o.columns ≡ o'.columns → o.rows ≡ o'.rows → refusal o held n m c ≡ refusal o' held n m c
unfolding refusal
refusal-by-size o o' held n m (draw shape colour) e f = refl
refusal-by-size o o' held n m (points list colour) e f = refl
refusal-by-size o o' held n m (dot column row colour) e f = rw (e, f)
refusal-by-size o o' held n m layer e f = refl
refusal-by-size o o' held n m (marker number character) e f = refl
refusal-by-size o o' held n m (print x y text choice) e f = refl
refusal-by-size o o' held n m (render area words) e f = rw (e, f)
