-- What an accepted draw, points or dot call has room for, and that it gives what its contract says, from the painter that it used and the dots that it painted.
use mathlib.Core.Path.{◌≡◌, sym, ◌∙◌, subst}
use mathlib.Core.List.{List}
use Prim.Native.Nat.{ℕ, ◌+◌, ◌*◌, ◌^◌, ◌≤◌, ◌<◌}
use native.Mathlib.Omega.{arith}
use lib.ListN.{length}
use borrow.Author.Tests.{ltb-false}
use Rattle.grids.specs.Markers.{marker_of}
use Rattle.view.specs.Limits.{max_columns, max_rows, max_draws, max_painted, reset}
use Rattle.lines.specs.Painted.{painted_by}
use Rattle.lines.specs.declared.painter.Painter.{Painter}
use Rattle.ledger.specs.Calls.{Call, draw, points, dot, bad_shape, bad_pairs, bad_colour, refusal, call_dots}
use Rattle.ledger.specs.Ledger.{ink_of}
use Rattle.ledger.specs.Model.{State, opening_of, refusal_on, dots_on, drawn_canvas}
use Rattle.ledger.specs.Outcomes.{given, refusal_by, painter_of}
use Rattle.ledger.specs.declared.state.Canvas.{Canvas}
use Rattle.walk.specs.declared.clip.Pair.{Pair}
use Rattle.shapes.specs.declared.painters.Shape.{Shape}
use Rattle.ledger.specs.Answer.{Painted, Called}
use Rattle.ledger.proofs.DotCounts.{few-dots}
use Rattle.grids.proofs.Cases.{cond-none}
use Rattle.ledger.proofs.Refusals.{Paints, by-draw, by-points, by-dot, size-within, paints-room, paints-few}
use Rattle.ledger.proofs.CallSteps.{Gives, gives-accepted, Fine, accepted-fine, accepted-own, refusal-by}

module _ (s : State) (c : Call) (p : Paints c) (e : 0 ≡ refusal_on s c) where
  by_lengths : 0 ≡ refusal_by s.canvas (length s.cells) (length s.labels) c
  by_lengths = e ∙ refusal-by s c

  fine : Fine s.canvas (length s.cells) (length s.labels)
  fine = accepted-fine s.canvas (length s.cells) (length s.labels) c by_lengths

  own : refusal (opening_of s.canvas) s.canvas.draws s.canvas.labels s.canvas.marker c ≡ 0
  own = accepted-own s.canvas (length s.cells) (length s.labels) c by_lengths

  paints-columns : s.canvas.columns ≤ max_columns
  paints-columns = (size-within (opening_of s.canvas) fine.opening).0

  paints-rows : s.canvas.rows ≤ max_rows
  paints-rows = (size-within (opening_of s.canvas) fine.opening).1

  paints-colour : ink_of c ≤ reset
  unfolding refusal
  paints-colour = go p own
    where
      go : {c : Call} → Paints c → refusal (opening_of s.canvas) s.canvas.draws s.canvas.labels s.canvas.marker c ≡ 0 → ink_of c ≤ reset
      go (by-draw shape colour) h = ltb-false reset colour (cond-none (bad_colour colour) 2 _ (cond-none (bad_shape shape) 1 _ h).1).0
      go (by-points list colour) h = ltb-false reset colour (cond-none (bad_colour colour) 2 _ (cond-none (bad_pairs list) 1 _ h).1).0
      go (by-dot column row colour) h = ltb-false reset colour (cond-none (bad_colour colour) 2 _ h).0

  room : s.canvas.draws < max_draws
  room = paints-room (opening_of s.canvas) s.canvas.draws s.canvas.labels s.canvas.marker p own

  few : length (dots_on s.canvas c) ≤ max_painted
  few =
      few-dots s.canvas.bounds s.canvas.columns s.canvas.rows (marker_of s.canvas.marker) c paints-columns paints-rows
      (paints-few (opening_of s.canvas) s.canvas.draws s.canvas.labels s.canvas.marker p own)

  count_fits : s.canvas.painted + length (dots_on s.canvas c) < 2 ^ 64
  count_fits = fits s.canvas.painted (length (dots_on s.canvas c)) s.canvas.draws fine.painted few room
    where
      fits : (a n d : ℕ) → a ≤ max_painted * d → n ≤ max_painted → d < max_draws → a + n < 2 ^ 64
      fits a n d h k l = omega arith

  -- with the painted number and the painted store
  paints-gives : (n : ℕ) (after : List ℕ) (r : Called) → n ≡ length (dots_on s.canvas c) → after ≡ painted_by (painter_of s.canvas (ink_of c)) s.cells (dots_on s.canvas c)
      → (s.canvas.draws < max_draws → s.canvas.painted + n < 2 ^ 64 → r ≡ record { canvas = drawn_canvas s.canvas n; answer = Painted n }) → Gives s c r after s.labels
  paints-gives n after r count painted made =
      let h : r ≡ record { canvas = drawn_canvas s.canvas n; answer = Painted n } = made room (subst (λ (m : ℕ). s.canvas.painted + m < 2 ^ 64) (sym count) count_fits) in
      rw (h, painted, count) (go p e)
    where
      go : {c : Call} → Paints c → 0 ≡ refusal_on s c
          → Gives s c (record { canvas = drawn_canvas s.canvas (length (dots_on s.canvas c)); answer = Painted (length (dots_on s.canvas c)) }) (painted_by (painter_of s.canvas (ink_of c)) s.cells (dots_on s.canvas c)) s.labels
      go (by-draw shape colour) z = gives-accepted s (draw shape colour) z
      go (by-points list colour) z = gives-accepted s (points list colour) z
      go (by-dot column row colour) z = gives-accepted s (dot column row colour) z

  -- with the painter that painted
  pub painter-gives : (q : Painter) (n : ℕ) (after : List ℕ) (r : Called)
      → (s.canvas.columns ≤ max_columns → s.canvas.rows ≤ max_rows → ink_of c ≤ reset → q ≡ painter_of s.canvas (ink_of c))
      → (n ≡ length (call_dots q.view c)) × (after ≡ painted_by q s.cells (call_dots q.view c))
      → (s.canvas.draws < max_draws → s.canvas.painted + n < 2 ^ 64 → r ≡ record { canvas = drawn_canvas s.canvas n; answer = Painted n }) → Gives s c r after s.labels
  painter-gives q n after r is-painter painted made =
      let e : q ≡ painter_of s.canvas (ink_of c) = is-painter paints-columns paints-rows paints-colour in
      paints-gives n after r (rw e at painted).0 (rw e at painted).1 made

-- what an accepted one has room for, as facts of the canvas
abbrev Room : Canvas → Call → Type 0
Room c call = (c.columns ≤ max_columns) × (c.rows ≤ max_rows) × (ink_of call ≤ reset) × (c.draws < max_draws) × (c.painted + length (dots_on c call) < 2 ^ 64)

module _ (c : Canvas) (cells labels : List ℕ) where
  paint-room : {call : Call} → Paints call → 0 ≡ refusal_by c (length cells) (length labels) call → Room c call
  paint-room {call} p e =
      let s = given c cells labels in
      let r = e ∙ sym (refusal-by s call) in
      (paints-columns s call p r, paints-rows s call p r, paints-colour s call p r, room s call p r, count_fits s call p r)

  pub draw_room : (shape : Shape) (colour : ℕ) → 0 ≡ refusal_by c (length cells) (length labels) (draw shape colour) → Room c (draw shape colour)
  draw_room shape colour e = paint-room (by-draw shape colour) e

  pub points_room : (pairs : List Pair) (colour : ℕ) → 0 ≡ refusal_by c (length cells) (length labels) (points pairs colour) → Room c (points pairs colour)
  points_room pairs colour e = paint-room (by-points pairs colour) e

  pub dot_room : (column row colour : ℕ) → 0 ≡ refusal_by c (length cells) (length labels) (dot column row colour) → Room c (dot column row colour)
  dot_room column row colour e = paint-room (by-dot column row colour) e
