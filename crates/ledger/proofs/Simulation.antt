-- The model's state and the ledger, side by side: how the two belong together, that an opening makes them so, and that each call keeps them so.
use mathlib.Core.Path.{◌≡◌, refl, sym, ap, ◌∙◌, subst}
use mathlib.Core.Bool.{Bool, true, false, cond}
use mathlib.Core.List.{List, [], ◌∷◌, ◌++◌, map, map-append}
use Prim.Native.Nat.{ℕ, zero, suc, ◌+◌, ◌*◌, ◌≤◌, ◌<◌}
use native.Mathlib.Omega.{arith}
use native.Mathlib.Numerals.{add-one}
use lib.Dec.{eqb}
use lib.Ieee.{Float}
use Rattle.std.specs.Prelude.{Option}
use lib.ListN.{length, length-append, length-map}
use borrow.Author.Tests.{le-ltb}
use Rattle.floats.proofs.Cases.{true-not-false}
use Rattle.walk.specs.declared.bresenham.Dot.{Dot}
use Rattle.grids.specs.Lists.{foldl}
use Rattle.grids.specs.Markers.{marker_of, is_marker}
use Rattle.grids.specs.declared.markers.Marker.{Marker}
use Rattle.grids.specs.Dots.{Inked, cell_index, in_cell, set_by, layer_sets}
use Rattle.grids.specs.Cells.{cell_at, blank_cell}
use Rattle.grids.specs.Painting.{paint_dots, inked, paint_inked}
use Rattle.grids.specs.Layer.{saved_cell, cleared_cell, reset_of}
use Rattle.grids.specs.declared.cells.Cell.{Cell}
use Rattle.grids.specs.declared.layer.LayerCell.{LayerCell}
use Rattle.grids.proofs.Words.{foldl-append, keep_append}
use Rattle.grids.proofs.CellStore.{length-each, each_at}
use Rattle.grids.proofs.DotsInCell.{painted_inked, length-paint-inked, paint-inked-at, paint-dots-inked}
use Rattle.view.specs.Limits.{max_draws, max_painted, max_labels}
use Rattle.ledger.specs.Screen.{Placed}
use Rattle.ledger.specs.Labels.{held_labels}
use Rattle.ledger.specs.Calls.{Call, draw, points, dot, layer, marker, print, render, refusal, open_refusal}
use Rattle.ledger.specs.declared.state.Opening.{Opening}
use Rattle.ledger.specs.Ledger.{Label, Ledger, layers, empty_layer, opened, picture_of, placed_of, painted_in, refusal_in, with_dots, with_layer, ink_of, added_dots, accepted, unless, ledger_after}
use Rattle.ledger.specs.Model.{State, opening_of, bad_canvas, short_stores, state_refusal, refusal_on, or_refusal, dots_on, drawn_canvas, laid_cells, saved_cells, marked_cells, rendered_cells, with_cells, accepted_on, state_after}
use Rattle.ledger.specs.Promise.{open_state}
use Rattle.ledger.specs.declared.state.Canvas.{Canvas}
use Rattle.ledger.proofs.DotCounts.{few-dots}
use Rattle.ledger.proofs.LabelStore.{length-put-label, held-put}
use Rattle.grids.proofs.Cases.{cond-none}
use Rattle.ledger.proofs.Refusals.{Paints, by-draw, by-points, by-dot, GoodOpening, size-within, open-accepted, paints-room, paints-few, marker-valid, print-fits, refusal-by-size}
use Rattle.ledger.proofs.Composing.{pictured, laid_on, picture-snoc, saved-cell}
use Rattle.ledger.proofs.Sums.{painted-with-dots, painted-with-layer}

-- the canvas and the state that belong to a ledger
abbrev pub canvas_of : Opening → Ledger → Bool → Canvas
canvas_of o l dirty = record {
  columns = o.columns;
  rows = o.rows;
  bounds = o.bounds;
  marker = l.last.marker;
  character = l.last.character;
  background = o.background;
  dirty = dirty;
  rendered = l.closed;
  labels = length l.labels;
  draws = l.draws;
  painted = painted_in l;
}

abbrev pub state_of : Opening → Ledger → Bool → List ℕ → List ℕ → State
state_of o l dirty cells labels = record { canvas = canvas_of o l dirty; cells = cells; labels = labels }

pub record Simulated (o : Opening) (s : State) (l : Ledger) : Type 0 where
  pub canvas : s.canvas ≡ canvas_of o l s.canvas.dirty
  pub clean : s.canvas.dirty ≡ false → l.last.dots ≡ []
  pub cell_room : o.columns * o.rows * 5 ≤ length s.cells
  pub label-room : max_labels * 44 ≤ length s.labels
  pub few-draws : l.draws ≤ max_draws
  pub few-labels : length l.labels ≤ max_labels
  pub few-painted : painted_in l ≤ max_painted * l.draws
  pub valid : is_marker l.last.marker l.last.character ≡ true
  pub held : held_labels s.labels (length l.labels) ≡ map (placed_of o) l.labels
  -- a cell has the picture of the layers before, and the last layer's dots painted over a clear grid
  pub cell : (i : ℕ) → i < o.columns * o.rows
      → cell_at s.cells i ≡ foldl (painted_inked (marker_of l.last.marker)) (pictured (picture_of o.columns l.before i)) (in_cell (marker_of l.last.marker) o.columns i l.last.dots)

-- what holds of every state that belongs to the ledger holds of a simulated one
pub simulated-cases : (o : Opening) (s : State) (l : Ledger) (P : State → Type 0) → Simulated o s l
    → ((dirty : Bool) (cells labels : List ℕ) → Simulated o (state_of o l dirty cells labels) l → P (state_of o l dirty cells labels)) → P s
simulated-cases o s l P r each =
    let e : s ≡ state_of o l s.canvas.dirty s.cells s.labels = λ k. record { canvas = r.canvas k; cells = s.cells; labels = s.labels } in
    subst P (sym e) (each s.canvas.dirty s.cells s.labels (subst (λ (t : State). Simulated o t l) e r))

-- ---- an accepted opening
pub simulated-opened : (o : Opening) (cells labels : List ℕ) → open_refusal o (length cells) (length labels) ≡ 0 → Simulated o (open_state o cells labels) (opened o)
unfolding painted_in picture_of
simulated-opened o cells labels e =
    let t = open-accepted o (length cells) (length labels) e in
    rw e (record {
      canvas = refl;
      clean = λ f. refl;
      cell_room = rw (length-each (λ c. blank_cell) cells (o.columns * o.rows)) t.1;
      label-room = t.2;
      few-draws = omega arith;
      few-labels = omega arith;
      few-painted = omega arith;
      valid = t.0.marker;
      held = refl;
      cell = λ i h. each_at (λ c. blank_cell) cells (o.columns * o.rows) i h t.1;
    })

-- ---- an accepted call
module _ (o : Opening) (l : Ledger) (dirty : Bool) (cells labels : List ℕ) (r : Simulated o (state_of o l dirty cells labels) l) where
  abbrev n : ℕ
  n = o.columns * o.rows

  abbrev m : ℕ
  m = l.last.marker

  abbrev grid : Marker
  grid = marker_of m

  abbrev before : ℕ → Cell
  before i = pictured (picture_of o.columns l.before i)

  draw-keeps : (ink : ℕ) (dots : List Dot) → l.draws < max_draws → length dots ≤ max_painted
      → Simulated o (with_cells (state_of o l dirty cells labels) (drawn_canvas (canvas_of o l dirty) (length dots)) (paint_dots grid o.columns o.rows (suc ink) cells dots)) (with_dots l (inked ink dots))
  draw-keeps ink dots room few =
      let count : painted_in (with_dots l (inked ink dots)) ≡ painted_in l + length dots = painted-with-dots l (inked ink dots) ∙ rw length-map in
      let same : paint_dots grid o.columns o.rows (suc ink) cells dots ≡ paint_inked grid o.columns o.rows cells (inked ink dots) = paint-dots-inked grid o.columns o.rows ink dots cells in
      record {
        canvas = rw (count, add-one);
        clean = λ e. true-not-false e;
        cell_room = rw (same, length-paint-inked grid o.columns o.rows (inked ink dots) cells) r.cell_room;
        label-room = r.label-room;
        few-draws = room;
        few-labels = r.few-labels;
        few-painted = rw count (omega (arith, r.few-painted));
        valid = r.valid;
        held = r.held;
        cell = λ i h.
            ap (λ (s : List ℕ). cell_at s i) same
            ∙ paint-inked-at grid o.columns o.rows (inked ink dots) cells i h r.cell_room
            ∙ ap (λ (c : Cell). foldl (painted_inked grid) c (in_cell grid o.columns i (inked ink dots))) (r.cell i h)
            ∙ sym (foldl-append (painted_inked grid) (before i) (in_cell grid o.columns i l.last.dots) (in_cell grid o.columns i (inked ink dots)))
            ∙ ap (foldl (painted_inked grid) (before i)) (sym (keep_append (λ d. eqb (cell_index grid o.columns d.column d.row) i) l.last.dots (inked ink dots)));
      }

  -- the picture once the last layer lies on it
  abbrev whole : ℕ → Cell
  whole i = pictured (picture_of o.columns (layers l) i)

  saved-whole : (i : ℕ) → i < n → cell_at (saved_cells (canvas_of o l dirty) cells) i ≡ whole i
  saved-whole i h =
      saved-cell m l.last.character r.valid (picture_of o.columns l.before i) (in_cell grid o.columns i l.last.dots) cells n i h r.cell_room (r.cell i h)
      ∙ ap pictured (sym (picture-snoc o.columns l.before l.last i))

  clean-whole : dirty ≡ false → (i : ℕ) → i < n → cell_at cells i ≡ whole i
  unfolding set_by
  clean-whole e i h =
      let p : LayerCell = picture_of o.columns l.before i in
      r.cell i h
      ∙ ap (λ (dots : List Inked). foldl (painted_inked grid) (before i) (in_cell grid o.columns i dots)) (r.clean e)
      ∙ ap pictured (ap (λ (dots : List Inked). laid_on (layer_sets grid l.last.character o.columns dots i) p) (sym (r.clean e)) ∙ sym (picture-snoc o.columns l.before l.last i))

  length-saved : length (saved_cells (canvas_of o l dirty) cells) ≡ length cells
  length-saved = length-each cleared_cell _ n ∙ length-each (saved_cell grid _) cells n

  pub rendered-whole : (i : ℕ) → i < n → cell_at (rendered_cells (canvas_of o l dirty) cells) i ≡ whole i
  rendered-whole i h = go dirty refl
    where
      go : (t : Bool) → dirty ≡ t → cell_at (cond t (saved_cells (canvas_of o l dirty) cells) cells) i ≡ whole i
      go true e = saved-whole i h
      go false e = clean-whole e i h

  length-rendered : length (rendered_cells (canvas_of o l dirty) cells) ≡ length cells
  length-rendered = go dirty
    where
      go : (t : Bool) → length (cond t (saved_cells (canvas_of o l dirty) cells) cells) ≡ length cells
      go true = length-saved
      go false = refl

  layer-keeps : (number character : ℕ) (closed : Bool) (after : List ℕ) → is_marker number character ≡ true → length after ≡ length cells → ((i : ℕ) → i < n → cell_at after i ≡ whole i)
      → let l' : Ledger = record { before = layers l; last = empty_layer number character; labels = l.labels; draws = l.draws; closed = closed } in
      Simulated o (record {
        canvas = record {
          columns = o.columns;
          rows = o.rows;
          bounds = o.bounds;
          marker = number;
          character = character;
          background = o.background;
          dirty = false;
          rendered = closed;
          labels = length l.labels;
          draws = l.draws;
          painted = painted_in l;
        };
        cells = after;
        labels = labels;
      }) l'
  unfolding painted_in
  layer-keeps number character closed after valid len whole-after =
      let count : painted_in (with_layer l number character) ≡ painted_in l = painted-with-layer l number character in
      record {
        canvas = rw count;
        clean = λ e. refl;
        cell_room = rw len r.cell_room;
        label-room = r.label-room;
        few-draws = r.few-draws;
        few-labels = r.few-labels;
        few-painted = rw count r.few-painted;
        valid = valid;
        held = r.held;
        cell = whole-after;
      }

  marked-whole : (i : ℕ) → i < n → cell_at (marked_cells (canvas_of o l dirty) cells) i ≡ whole i
  marked-whole i h = go dirty refl
    where
      go : (t : Bool) → dirty ≡ t → cell_at (reset_of (cond t (laid_cells (canvas_of o l dirty) cells) cells) n) i ≡ whole i
      go true e = saved-whole i h
      go false e = each_at cleared_cell cells n i h r.cell_room ∙ ap cleared_cell (clean-whole e i h)

  length_marked : length (marked_cells (canvas_of o l dirty) cells) ≡ length cells
  length_marked = go dirty
    where
      go : (t : Bool) → length (reset_of (cond t (laid_cells (canvas_of o l dirty) cells) cells) n) ≡ length cells
      go true = length-saved
      go false = length-each cleared_cell cells n

  print-keeps : (x y : Float) (text : List ℕ) (choice : Option ℕ) → refusal_in o l (print x y text choice) ≡ 0
      → Simulated o (accepted_on (state_of o l dirty cells labels) (print x y text choice)) (accepted o l (print x y text choice))
  unfolding painted_in
  print-keeps x y text choice e =
      let label : Label = record { x = x; y = y; text = text; choice = choice } in
      let fits = print-fits o l.draws (length l.labels) m x y text choice (cond-none l.closed 5 _ e).1 in
      let one : length (l.labels ++ (label ∷ [])) ≡ suc (length l.labels) = length-append l.labels (label ∷ []) ∙ omega arith in
      record {
        canvas = rw (one, add-one);
        clean = r.clean;
        cell_room = r.cell_room;
        label-room = rw (length-put-label labels (length l.labels) (placed_of o label)) r.label-room;
        few-draws = r.few-draws;
        few-labels = omega (arith, one, fits);
        few-painted = r.few-painted;
        valid = r.valid;
        held =
            rw (one, map-append (placed_of o) l.labels (label ∷ []))
            (held-put labels (length l.labels) (placed_of o label) (omega (arith, r.label-room, fits)) fits.0 ∙ ap (λ (ls : List Placed). ls ++ (placed_of o label ∷ [])) r.held);
        cell = r.cell;
      }

  module _ (good : GoodOpening o) where
    accepted-keeps : (c : Call) → refusal_in o l c ≡ 0 → Simulated o (accepted_on (state_of o l dirty cells labels) c) (accepted o l c)
    accepted-keeps c e = go c (cond-none l.closed 5 _ e).1 e
      where
        some : {c : Call} → Paints c → refusal o l.draws (length l.labels) m c ≡ 0
            → Simulated o (with_cells (state_of o l dirty cells labels) (drawn_canvas (canvas_of o l dirty) (length (dots_on (canvas_of o l dirty) c))) (paint_dots grid o.columns o.rows (suc (ink_of c)) cells (dots_on (canvas_of o l dirty) c))) (with_dots l (added_dots o m c))
        some {c} p f =
            draw-keeps (ink_of c) (dots_on (canvas_of o l dirty) c) (paints-room o l.draws (length l.labels) m p f)
            (few-dots o.bounds o.columns o.rows grid c (size-within o good).0 (size-within o good).1 (paints-few o l.draws (length l.labels) m p f))

        go : (c : Call) → refusal o l.draws (length l.labels) m c ≡ 0 → refusal_in o l c ≡ 0 → Simulated o (accepted_on (state_of o l dirty cells labels) c) (accepted o l c)
        go (draw shape colour) f e = some (by-draw shape colour) f
        go (points pairs colour) f e = some (by-points pairs colour) f
        go (dot column row colour) f e = some (by-dot column row colour) f
        go layer f e = layer-keeps m l.last.character l.closed (saved_cells (canvas_of o l dirty) cells) r.valid length-saved saved-whole
        go (marker number character) f e =
            layer-keeps number character l.closed (marked_cells (canvas_of o l dirty) cells) (marker-valid o l.draws (length l.labels) m number character f) length_marked marked-whole
        go (print x y text choice) f e = print-keeps x y text choice e
        go (render area words) f e = layer-keeps m l.last.character true (rendered_cells (canvas_of o l dirty) cells) r.valid length-rendered rendered-whole

    pub refusal_is : (c : Call) → refusal_on (state_of o l dirty cells labels) c ≡ refusal_in o l c
    unfolding refusal_on state_refusal bad_canvas short_stores
    refusal_is c =
        rw (
          good.size,
          good.bounds,
          good.colour,
          r.valid,
          le-ltb max_draws l.draws r.few-draws,
          le-ltb max_labels (length l.labels) r.few-labels,
          le-ltb (max_painted * l.draws) (painted_in l) r.few-painted,
          le-ltb (length cells) (o.columns * o.rows * 5) r.cell_room,
          le-ltb (length labels) (max_labels * 44) r.label-room,
        )
        (go l.closed)
      where
        go : (t : Bool) → or_refusal (cond t 6 0) (refusal (opening_of (canvas_of o l dirty)) l.draws (length l.labels) m c) ≡ cond t 6 (refusal o l.draws (length l.labels) m c)
        go true = refl
        go false = refusal-by-size (opening_of (canvas_of o l dirty)) o l.draws (length l.labels) m c refl refl

-- ---- any call
pub simulated-after : (o : Opening) (s : State) (l : Ledger) (c : Call) → GoodOpening o → Simulated o s l → Simulated o (state_after s c) (ledger_after o l c)
unfolding state_after ledger_after
simulated-after o s l c good r =
    simulated-cases o s l (λ (t : State). Simulated o (state_after t c) (ledger_after o l c)) r
    (λ dirty cells labels q. rw (refusal_is o l dirty cells labels q good c) (go dirty cells labels q (refusal_in o l c) refl))
  where
    go : (dirty : Bool) (cells labels : List ℕ) → Simulated o (state_of o l dirty cells labels) l → (k : ℕ) → refusal_in o l c ≡ k
        → Simulated o (unless k (state_of o l dirty cells labels) (accepted_on (state_of o l dirty cells labels) c)) (unless k l (accepted o l c))
    go dirty cells labels q zero e = accepted-keeps o l dirty cells labels q good c e
    go dirty cells labels q (suc k) e = q
