-- What a call's contract says in its two cases, refused and accepted; and what an accepted call's canvas and stores are like.
use mathlib.Core.Path.{◌≡◌, refl, sym}
use mathlib.Core.Bool.{false, not, ◌||◌}
use mathlib.Core.List.{List}
use Prim.Native.Nat.{ℕ, zero, suc, ◌*◌, ◌≤◌}
use native.Mathlib.Omega.{arith}
use lib.Dec.{ltb}
use lib.ListN.{length}
use borrow.Author.Tests.{ltb-false, le-ltb, not-false}
use Rattle.std.proofs.lemmas.Bool.{or_parts}
use Rattle.grids.specs.Markers.{is_marker}
use Rattle.view.specs.Limits.{max_columns, max_rows, max_draws, max_painted, max_labels}
use Rattle.ledger.specs.Calls.{Call, bad_size, bad_bounds, bad_colour, refusal}
use Rattle.ledger.specs.Model.{State, opening_of, cell_count, bad_canvas, short_stores, state_refusal, or_refusal, refusal_on, state_after, accepted_on}
use Rattle.ledger.specs.Outcomes.{refusal_by, accepted_answer, answer_on, called_on}
use Rattle.ledger.specs.declared.state.Canvas.{Canvas}
use Rattle.ledger.specs.Answer.{Refused, Called}
use Rattle.grids.proofs.Cases.{cond-none}
use Rattle.ledger.proofs.Refusals.{GoodOpening, size-within}

-- what a contract asks: the canvas and answer, and the stores after the call
pub record Gives (s : State) (c : Call) (r : Called) (cells_after labels_after : List ℕ) : Type 0 where
  pub called : r ≡ called_on s c
  pub cells : cells_after ≡ (state_after s c).cells
  pub labels : labels_after ≡ (state_after s c).labels

pub gives-accepted : (s : State) (c : Call) → 0 ≡ refusal_on s c → Gives s c (record { canvas = (accepted_on s c).canvas; answer = accepted_answer s c }) (accepted_on s c).cells (accepted_on s c).labels
unfolding state_after answer_on
gives-accepted s c e = record { called = rw (sym e); cells = rw (sym e); labels = rw (sym e) }

pub or-none : (a b : ℕ) → or_refusal a b ≡ 0 → (a ≡ 0) × (b ≡ 0)
or-none zero b e = (refl, e)
or-none (suc a) b e = absurd (omega arith)

-- a canvas and stores that meet neither 5 nor 6
pub record Fine (c : Canvas) (cell_words label_words : ℕ) : Type 0 where
  pub opening : GoodOpening (opening_of c)
  pub draws : c.draws ≤ max_draws
  pub labels-held : c.labels ≤ max_labels
  pub painted : c.painted ≤ max_painted * c.draws
  pub cell_room : cell_count c * 5 ≤ cell_words
  pub label-room : max_labels * 44 ≤ label_words

good-canvas : (c : Canvas) (cells labels : ℕ) → bad_canvas c ≡ false → short_stores c cells labels ≡ false → Fine c cells labels
unfolding bad_canvas short_stores
good-canvas c cells labels bad short =
    let size = bad_size c.columns c.rows in
    let bounds = bad_bounds c.bounds in
    let colour = bad_colour c.background in
    let marker = not (is_marker c.marker c.character) in
    let draws = ltb max_draws c.draws in
    let labels? = ltb max_labels c.labels in
    let painted = ltb (max_painted * c.draws) c.painted in
    let own = (or_parts (((size || bounds) || colour) || marker) ((draws || labels?) || painted) bad).0 in
    let counts = (or_parts (((size || bounds) || colour) || marker) ((draws || labels?) || painted) bad).1 in
    let three = (or_parts ((size || bounds) || colour) marker own).0 in
    let two = (or_parts (size || bounds) colour three).0 in
    let held = (or_parts (draws || labels?) painted counts).0 in
    record {
      opening = record {
        size = (or_parts size bounds two).0;
        bounds = (or_parts size bounds two).1;
        colour = (or_parts (size || bounds) colour three).1;
        marker = not-false (is_marker c.marker c.character) (or_parts ((size || bounds) || colour) marker own).1;
      };
      draws = ltb-false max_draws c.draws (or_parts draws labels? held).0;
      labels-held = ltb-false max_labels c.labels (or_parts draws labels? held).1;
      painted = ltb-false (max_painted * c.draws) c.painted (or_parts (draws || labels?) painted counts).1;
      cell_room = ltb-false cells (cell_count c * 5) (or_parts (ltb cells (cell_count c * 5)) (ltb labels (max_labels * 44)) short).0;
      label-room = ltb-false labels (max_labels * 44) (or_parts (ltb cells (cell_count c * 5)) (ltb labels (max_labels * 44)) short).1;
    }

pub state-fine : (c : Canvas) (cells labels : ℕ) → state_refusal c cells labels ≡ 0 → Fine c cells labels
unfolding state_refusal
state-fine c cells labels e =
    let h = (cond-none (bad_canvas c || short_stores c cells labels) 4 _ e).0 in
    good-canvas c cells labels (or_parts (bad_canvas c) (short_stores c cells labels) h).0 (or_parts (bad_canvas c) (short_stores c cells labels) h).1

-- a call that is not refused
pub accepted-fine : (c : Canvas) (cells labels : ℕ) (call : Call) → 0 ≡ refusal_by c cells labels call → Fine c cells labels
accepted-fine c cells labels call e = state-fine c cells labels (or-none (state_refusal c cells labels) _ (sym e)).0

pub accepted-own : (c : Canvas) (cells labels : ℕ) (call : Call) → 0 ≡ refusal_by c cells labels call → refusal (opening_of c) c.draws c.labels c.marker call ≡ 0
accepted-own c cells labels call e = (or-none (state_refusal c cells labels) _ (sym e)).1

-- refusals by lengths are those on the state
pub refusal-by : (s : State) (c : Call) → refusal_on s c ≡ refusal_by s.canvas (length s.cells) (length s.labels) c
unfolding refusal_on
refusal-by s c = refl

pub canvas_size : (c : Canvas) → bad_canvas c ≡ false → (c.columns ≤ max_columns) × (c.rows ≤ max_rows)
unfolding short_stores
canvas_size c bad = size-within (opening_of c) (good-canvas c (cell_count c * 5) (max_labels * 44) bad (rw (le-ltb (cell_count c * 5) (cell_count c * 5) (omega arith)))).opening
