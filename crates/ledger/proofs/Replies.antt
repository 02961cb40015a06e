-- The model's replies are the ledger's, call by call, by the simulation; and a list without its refused calls has the replies that are no refusals, as a refused call changes nothing.
use mathlib.Core.Path.{◌≡◌, refl, sym, ap, ap₂, ◌∙◌, fun_ext}
use mathlib.Core.Bool.{Bool, true, false, cond}
use mathlib.Core.List.{List, [], ◌∷◌, map}
use Prim.Native.Nat.{ℕ, zero, suc}
use lib.ListN.{length, length-map}
use Rattle.floats.proofs.Cases.{true-not-false}
use Rattle.grids.specs.Lists.{keep}
use Rattle.grids.specs.declared.cells.Cell.{Cell}
use Rattle.grids.specs.declared.layer.LayerCell.{LayerCell}
use Rattle.ledger.specs.Screen.{ScreenCell, cell_on}
use Rattle.ledger.specs.Calls.{Call, draw, points, dot, layer, marker, print, render, open_refusal}
use Rattle.ledger.specs.declared.state.Opening.{Opening}
use Rattle.ledger.specs.Ledger.{Ledger, layers, opened, picture_of, placed_of, screen_cell, painted_in, refusal_in, Reply, refused, painted, done, shown, reply, unless, reply_unless, ledger_after, ledger_reply, ledger_replies}
use Rattle.ledger.specs.Model.{State, refusal_on, rendered_cells, screen_after, accepted_on, reply_on, state_after, reply_after, replies}
use Rattle.ledger.specs.Promise.{open_state, first_shown, is_accepted, NoRefusal, without_refused}
use Rattle.ledger.specs.declared.screen.Area.{Area}
use Rattle.grids.proofs.Cases.{cond-none}
use Rattle.ledger.proofs.Refusals.{GoodOpening, open-accepted, render-fits}
use Rattle.ledger.proofs.Simulation.{canvas_of, state_of, Simulated, simulated-cases, simulated-opened, rendered-whole, refusal_is, simulated-after}
use Rattle.ledger.proofs.ScreenCells.{rendered-cell}

abbrev picture_in : Cell → LayerCell
picture_in c = record { symbol = c.symbol; foreground = c.foreground; background = c.background }

-- ---- one reply
module _ (o : Opening) (l : Ledger) (dirty : Bool) (cells labels : List ℕ) (r : Simulated o (state_of o l dirty cells labels) l) where
  screen-is : (area : Area) (words : List ℕ) → refusal_in o l (render area words) ≡ 0 → (j : ℕ)
      → cell_on (screen_after (state_of o l dirty cells labels) area words) j ≡ screen_cell o (layers l) l.labels area words j
  unfolding screen_cell
  screen-is area words e j =
      let fits = render-fits o l.draws (length l.labels) l.last.marker area words (cond-none l.closed 5 _ e).1 in
      rw r.held
      (rendered-cell (canvas_of o l dirty) area fits.0 fits.1 words fits.2 (rendered_cells (canvas_of o l dirty) cells) (picture_of o.columns (layers l))
      (λ i h. ap picture_in (rendered-whole o l dirty cells labels r i h)) (map (placed_of o) l.labels) j)

  reply-is : (c : Call) → refusal_in o l c ≡ 0 → reply_on (state_of o l dirty cells labels) c ≡ reply o l c
  reply-is (draw shape colour) e = rw length-map
  reply-is (points pairs colour) e = rw length-map
  reply-is (dot column row colour) e = rw length-map
  reply-is layer e = refl
  reply-is (marker number character) e = refl
  reply-is (print x y text choice) e = refl
  reply-is (render area words) e = ap (λ (f : ℕ → ScreenCell). shown f (painted_in l)) (fun_ext (screen-is area words e))

reply-after-is : (o : Opening) (s : State) (l : Ledger) (c : Call) → GoodOpening o → Simulated o s l → reply_after s c ≡ ledger_reply o l c
unfolding reply_after ledger_reply
reply-after-is o s l c good r =
    simulated-cases o s l (λ (t : State). reply_after t c ≡ ledger_reply o l c) r
    (λ dirty cells labels q. rw (refusal_is o l dirty cells labels q good c) (go dirty cells labels q (refusal_in o l c) refl))
  where
    go : (dirty : Bool) (cells labels : List ℕ) → Simulated o (state_of o l dirty cells labels) l → (k : ℕ) → refusal_in o l c ≡ k
        → reply_unless k (reply_on (state_of o l dirty cells labels) c) ≡ reply_unless k (reply o l c)
    go dirty cells labels q zero e = reply-is o l dirty cells labels q c e
    go dirty cells labels q (suc k) e = refl

-- ---- all replies
replies-are : (o : Opening) (calls : List Call) (s : State) (l : Ledger) → GoodOpening o → Simulated o s l → replies s calls ≡ ledger_replies o l calls
replies-are o [] s l good r = refl
replies-are o (c ∷ calls) s l good r =
    ap₂ (λ (x : Reply) (xs : List Reply). x ∷ xs) (reply-after-is o s l c good r) (replies-are o calls (state_after s c) (ledger_after o l c) good (simulated-after o s l c good r))

pub replies-of-ledger : (o : Opening) (cells labels : List ℕ) → open_refusal o (length cells) (length labels) ≡ 0 → (calls : List Call)
    → replies (open_state o cells labels) calls ≡ ledger_replies o (opened o) calls
replies-of-ledger o cells labels e calls =
    replies-are o calls (open_state o cells labels) (opened o) (open-accepted o (length cells) (length labels) e).0 (simulated-opened o cells labels e)

-- ---- the refused calls
reply-accepted : (s : State) (c : Call) → is_accepted (reply_on s c) ≡ true
reply-accepted s (draw shape colour) = refl
reply-accepted s (points pairs colour) = refl
reply-accepted s (dot column row colour) = refl
reply-accepted s layer = refl
reply-accepted s (marker number character) = refl
reply-accepted s (print x y text choice) = refl
reply-accepted s (render area words) = refl

refused-stays : (s : State) (c : Call) → is_accepted (reply_after s c) ≡ false → state_after s c ≡ s
unfolding reply_after state_after
refused-stays s c = go (refusal_on s c)
  where
    go : (k : ℕ) → is_accepted (reply_unless k (reply_on s c)) ≡ false → unless k s (accepted_on s c) ≡ s
    go zero e = true-not-false (sym (reply-accepted s c) ∙ e)
    go (suc k) e = refl

pub replies-without-refused : (calls : List Call) (s : State) → replies s (without_refused s calls) ≡ keep is_accepted (replies s calls)
replies-without-refused [] s = refl
replies-without-refused (c ∷ calls) s = go (is_accepted (reply_after s c)) refl (replies-without-refused calls (state_after s c))
  where
    next : State
    next = state_after s c

    go : (t : Bool) → is_accepted (reply_after s c) ≡ t → replies next (without_refused next calls) ≡ keep is_accepted (replies next calls)
        → replies s (cond t (c ∷ without_refused next calls) (without_refused next calls)) ≡ cond t (reply_after s c ∷ keep is_accepted (replies next calls)) (keep is_accepted (replies next calls))
    go true e ih = ap (λ (xs : List Reply). reply_after s c ∷ xs) ih
    go false e ih = ap (λ (t : State). replies t (without_refused next calls)) (sym (refused-stays s c e)) ∙ ih

pub first-shown-kept : (rs : List Reply) → first_shown (keep is_accepted rs) ≡ first_shown rs
first-shown-kept [] = refl
first-shown-kept (refused n ∷ rs) = first-shown-kept rs
first-shown-kept (painted n ∷ rs) = first-shown-kept rs
first-shown-kept (done ∷ rs) = first-shown-kept rs
first-shown-kept (shown cells n ∷ rs) = refl

pub kept-no-refusal : (rs : List Reply) → NoRefusal (keep is_accepted rs)
kept-no-refusal [] = tt
kept-no-refusal (refused n ∷ rs) = kept-no-refusal rs
kept-no-refusal (painted n ∷ rs) = (refl, kept-no-refusal rs)
kept-no-refusal (done ∷ rs) = (refl, kept-no-refusal rs)
kept-no-refusal (shown cells n ∷ rs) = (refl, kept-no-refusal rs)
