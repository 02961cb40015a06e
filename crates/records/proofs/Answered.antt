-- A call's result by the model's answer, and the state after it as a whole.
use Rattle.std.proofs.Common.{◌≡◌, ℕ, zero, suc, true, false, List, Result, Ok, Err, refl, ap, ◌∙◌}
use Rattle.refusals.specs.declared.refusal.Refusal.{Refusal}
use Rattle.refusals.specs.Refusals.{number_of, number_in}
use Rattle.ledger.specs.Calls.{Call, draw, points, dot, layer, marker, print, render}
use Rattle.ledger.specs.Model.{State, refusal_on, state_after}
use Rattle.ledger.specs.Outcomes.{given, accepted_answer, answer_unless, answer_on}
use Rattle.ledger.specs.Promise.{is_print}
use Rattle.ledger.specs.declared.state.Canvas.{Canvas}
use Rattle.ledger.specs.Answer.{Called}
use Rattle.ledger.specs.Answer as answer
use Rattle.canvas.specs.Results.{done}
use Rattle.records.proofs.Kept.{same-labels, same-cells}

-- an accepted call's answer is no refusal
accepted-no : (s : State) (c : Call) (n : ℕ) → answer.Refused n ≡ accepted_answer s c → ⊥
accepted-no s (draw shape colour) n e = cc
accepted-no s (points pairs colour) n e = cc
accepted-no s (dot column row colour) n e = cc
accepted-no s layer n e = cc
accepted-no s (marker m character) n e = cc
accepted-no s (print x y text choice) n e = cc
accepted-no s (render area words) n e = cc

by-refused : (s : State) (c : Call) (n : ℕ) → answer.Refused n ≡ answer_on s c → n ≡ refusal_on s c
unfolding answer_on
by-refused s c n = go (refusal_on s c)
  where
    go : (k : ℕ) → answer.Refused n ≡ answer_unless k (accepted_answer s c) → n ≡ k
    go zero e = absurd (accepted-no s c n e)
    go (suc k) e = cc

by-painted : (s : State) (c : Call) (n : ℕ) → answer.Painted n ≡ answer_on s c → 0 ≡ refusal_on s c
unfolding answer_on
by-painted s c n = go (refusal_on s c)
  where
    go : (k : ℕ) → answer.Painted n ≡ answer_unless k (accepted_answer s c) → 0 ≡ k
    go zero e = refl
    go (suc k) e = cc

by-done : (s : State) (c : Call) (r : Result (Unit {0}) Refusal) → done r ≡ answer_on s c → number_in r ≡ refusal_on s c
unfolding answer_on
by-done s c (Err r) e = by-refused s c (number_of r) e
by-done s c (Ok x) e = go (refusal_on s c) e
  where
    go : (k : ℕ) → answer.Done ≡ answer_unless k (accepted_answer s c) → 0 ≡ k
    go zero e = refl
    go (suc k) e = cc

-- the canvas and the stores as one state
state-by : (s : State) (canvas : Canvas) (cells labels : List ℕ) → canvas ≡ s.canvas → cells ≡ s.cells → labels ≡ s.labels
    → given canvas cells labels ≡ s
state-by s canvas cells labels a b c = λ i. record { canvas = a i; cells = b i; labels = c i }

-- a call that prints no label, and one that does
state-drawn : (s : State) (c : Call) (canvas : Canvas) (cells : List ℕ) → is_print c ≡ false → canvas ≡ (state_after s c).canvas
    → cells ≡ (state_after s c).cells → given canvas cells s.labels ≡ state_after s c
state-drawn s c canvas cells p a b = state-by (state_after s c) canvas cells s.labels a b (same-labels s c p)

state-labelled : (s : State) (c : Call) (canvas : Canvas) (labels : List ℕ) → is_print c ≡ true → canvas ≡ (state_after s c).canvas
    → labels ≡ (state_after s c).labels → given canvas s.cells labels ≡ state_after s c
state-labelled s c canvas labels p a b = state-by (state_after s c) canvas s.cells labels a (same-cells s c p) b

-- what a call leaves: its refusal's number or 0, and the state after it
pub record Leaves (s : State) (c : Call) (n : ℕ) (after : State) : Type 0 where
  pub refusal : n ≡ refusal_on s c
  pub state : after ≡ state_after s c

-- the call as it was made is the record's
pub same-leaves : (s : State) {c d : Call} {n : ℕ} {after : State} → c ≡ d → n ≡ refusal_on s c → after ≡ state_after s c
    → Leaves s d n after
same-leaves s e r t = record { refusal = r ∙ ap (refusal_on s) e; state = t ∙ ap (state_after s) e }

-- of one that prints no label: refused, painted, or done or refused; and of one that does
pub refused-leaves : (s : State) {c d : Call} {n : ℕ} {canvas : Canvas} {cells : List ℕ} → c ≡ d → is_print c ≡ false
    → answer.Refused n ≡ answer_on s c
    → canvas ≡ (state_after s c).canvas → cells ≡ (state_after s c).cells → Leaves s d n (given canvas cells s.labels)
refused-leaves s e p a b l = same-leaves s e (by-refused s _ _ a) (state-drawn s _ _ _ p b l)

pub painted-leaves : (s : State) {c d : Call} {n : ℕ} {canvas : Canvas} {cells : List ℕ} → c ≡ d → is_print c ≡ false
    → answer.Painted n ≡ answer_on s c
    → canvas ≡ (state_after s c).canvas → cells ≡ (state_after s c).cells → Leaves s d 0 (given canvas cells s.labels)
painted-leaves s e p a b l = same-leaves s e (by-painted s _ _ a) (state-drawn s _ _ _ p b l)

pub done-leaves : (s : State) {c d : Call} (r : Result (Unit {0}) Refusal) {canvas : Canvas} {cells : List ℕ} → c ≡ d
    → is_print c ≡ false → done r ≡ answer_on s c
    → canvas ≡ (state_after s c).canvas → cells ≡ (state_after s c).cells → Leaves s d (number_in r) (given canvas cells s.labels)
done-leaves s r e p a b l = same-leaves s e (by-done s _ r a) (state-drawn s _ _ _ p b l)

pub label-leaves : (s : State) {c d : Call} (r : Result (Unit {0}) Refusal) {canvas : Canvas} {labels : List ℕ} → c ≡ d
    → is_print c ≡ true → done r ≡ answer_on s c
    → canvas ≡ (state_after s c).canvas → labels ≡ (state_after s c).labels → Leaves s d (number_in r) (given canvas s.cells labels)
label-leaves s r e p a b l = same-leaves s e (by-done s _ r a) (state-labelled s _ _ _ p b l)
