-- The model's replies are the answers of the calls' contracts, and the report's label cells are at most the shown labels' lengths.
use mathlib.Core.Path.{◌≡◌, refl}
use mathlib.Core.List.{List, [], ◌∷◌}
use Prim.Native.Nat.{ℕ, zero, suc, ◌-◌, ◌≤◌}
use native.Mathlib.Omega.{arith}
use lib.ListN.{length}
use Rattle.std.specs.Prelude.{Option, Some, None}
use Rattle.ledger.specs.Screen.{cell_on, Placed}
use Rattle.ledger.specs.Calls.{Call, draw, points, dot, layer, marker, print, render}
use Rattle.ledger.specs.Ledger.{unless, reply_unless}
use Rattle.ledger.specs.Model.{State, refusal_on, reply_on, reply_after, screen_after, fitting_at, label_cells}
use Rattle.ledger.specs.Outcomes.{accepted_answer, answer_unless, answer_on, reply_of, screen_left}
use Rattle.ledger.proofs.Fitting.{fitting-at-most}
use Rattle.ledger.specs.Promise.{length_at, shown_lengths}
use Rattle.ledger.specs.declared.state.Canvas.{Canvas}

-- an accepted reply is its answer's, and a refusal too
module _ (s : State) (c : Call) where
  by-refusal : reply_on s c ≡ reply_of (accepted_answer s c) (cell_on []) → reply_after s c ≡ reply_of (answer_on s c) (cell_on [])
  unfolding reply_after answer_on
  by-refusal e = go (refusal_on s c)
    where
      go : (k : ℕ) → reply_unless k (reply_on s c) ≡ reply_of (answer_unless k (accepted_answer s c)) (cell_on [])
      go zero = e
      go (suc k) = refl

pub answers-are : (s : State) (c : Call) → reply_after s c ≡ reply_of (answer_on s c) (cell_on (screen_left s c))
unfolding reply_after answer_on
answers-are s (draw shape colour) = by-refusal s (draw shape colour) refl
answers-are s (points pairs colour) = by-refusal s (points pairs colour) refl
answers-are s (dot column row colour) = by-refusal s (dot column row colour) refl
answers-are s layer = by-refusal s layer refl
answers-are s (marker m character) = by-refusal s (marker m character) refl
answers-are s (print x y text choice) = by-refusal s (print x y text choice) refl
answers-are s (render area words) = go (refusal_on s (render area words))
  where
    go : (k : ℕ) → reply_unless k (reply_on s (render area words)) ≡ reply_of (answer_unless k (accepted_answer s (render area words))) (cell_on (unless k words (screen_after s area words)))
    go zero = refl
    go (suc k) = refl

fitting-short : (columns rows : ℕ) (f : Option (ℕ × ℕ)) (n : ℕ) → fitting_at columns rows f n ≤ length_at f n
fitting-short columns rows None n = omega arith
fitting-short columns rows (Some (column, row)) n = fitting-at-most columns rows (suc column) row n

pub label-cells-few : (c : Canvas) (labels : List Placed) → label_cells c labels ≤ shown_lengths labels
label-cells-few c [] = omega arith
label-cells-few c (l ∷ labels) = omega (arith, fitting-short c.columns c.rows l.place (length l.text), label-cells-few c labels)
