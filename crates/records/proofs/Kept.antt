-- A call changes one store at most: a label the labels, every other call the cells.
use mathlib.Core.Path.{◌≡◌, refl}
use mathlib.Core.Bool.{true, false}
use Prim.Native.Nat.{ℕ, zero, suc}
use Rattle.floats.proofs.Cases.{true-not-false, false-not-true}
use Rattle.ledger.specs.Calls.{Call, draw, points, dot, layer, marker, print, render}
use Rattle.ledger.specs.Ledger.{unless}
use Rattle.ledger.specs.Model.{State, refusal_on, state_after, accepted_on}
use Rattle.ledger.specs.Promise.{is_print}

accepted-labels : (s : State) (c : Call) → is_print c ≡ false → s.labels ≡ (accepted_on s c).labels
accepted-labels s (draw shape colour) e = refl
accepted-labels s (points pairs colour) e = refl
accepted-labels s (dot column row colour) e = refl
accepted-labels s layer e = refl
accepted-labels s (marker m character) e = refl
accepted-labels s (print x y text choice) e = true-not-false e
accepted-labels s (render area words) e = refl

pub same-labels : (s : State) (c : Call) → is_print c ≡ false → s.labels ≡ (state_after s c).labels
unfolding state_after
same-labels s c e = go (refusal_on s c)
  where
    go : (n : ℕ) → s.labels ≡ (unless n s (accepted_on s c)).labels
    go zero = accepted-labels s c e
    go (suc n) = refl

accepted-cells : (s : State) (c : Call) → is_print c ≡ true → s.cells ≡ (accepted_on s c).cells
accepted-cells s (draw shape colour) e = false-not-true e
accepted-cells s (points pairs colour) e = false-not-true e
accepted-cells s (dot column row colour) e = false-not-true e
accepted-cells s layer e = false-not-true e
accepted-cells s (marker m character) e = false-not-true e
accepted-cells s (print x y text choice) e = refl
accepted-cells s (render area words) e = false-not-true e

pub same-cells : (s : State) (c : Call) → is_print c ≡ true → s.cells ≡ (state_after s c).cells
unfolding state_after
same-cells s c e = go (refusal_on s c)
  where
    go : (n : ℕ) → s.cells ≡ (unless n s (accepted_on s c)).cells
    go zero = accepted-cells s c e
    go (suc n) = refl
