-- Demand 3 as one claim about a whole list of calls from an accepted opening to the first accepted render, refused ones included: document 01, 'The ledger'.
use Rattle.std.specs.Prelude.{◌≡◌, Bool, true, false, cond, List, [], ◌∷◌, ◌++◌, ℕ, ◌+◌, ◌≤◌, length, Option, Some, None}
use Rattle.grids.specs.Lists.{keep}
use Rattle.ledger.specs.Screen.{ScreenCell, cell_on, Placed}
use Rattle.ledger.specs.Calls.{Call, draw, points, dot, layer, marker, print, render, open_refusal}
use Rattle.ledger.specs.declared.state.Opening.{Opening}
use Rattle.ledger.specs.Ledger.{opened, Reply, refused, painted, done, shown, ledger_replies}
use Rattle.ledger.specs.Model.{State, open_cells, open_canvas, reply_after, state_after, replies, label_cells}
use Rattle.ledger.specs.Outcomes.{answer_on, reply_of, screen_left}
use Rattle.ledger.specs.declared.screen.Area.{Area}
use Rattle.ledger.specs.declared.state.Canvas.{Canvas}

-- the state that an opening leaves
abbrev pub open_state : Opening → List ℕ → List ℕ → State
open_state o cells labels = record { canvas = open_canvas o cells (length labels); cells = open_cells o cells (length labels); labels = labels }

-- what the first accepted render shows; `done` where there is none
abbrev pub first_shown : List Reply → Reply
first_shown [] = done
first_shown (refused n ∷ rest) = first_shown rest
first_shown (painted n ∷ rest) = first_shown rest
first_shown (done ∷ rest) = first_shown rest
first_shown (shown cells n ∷ rest) = shown cells n

abbrev pub is_accepted : Reply → Bool
is_accepted (refused n) = false
is_accepted (painted n) = true
is_accepted done = true
is_accepted (shown cells n) = true

abbrev pub NoRefusal : List Reply → Type 0
NoRefusal [] = Unit {0}
NoRefusal (r ∷ rest) = (is_accepted r ≡ true) × NoRefusal rest

-- the painted numbers together
abbrev pub painted_sum : List Reply → ℕ
painted_sum [] = 0
painted_sum (refused n ∷ rest) = painted_sum rest
painted_sum (painted n ∷ rest) = n + painted_sum rest
painted_sum (done ∷ rest) = painted_sum rest
painted_sum (shown cells n ∷ rest) = painted_sum rest

-- the list without its refused calls
abbrev pub without_refused : State → List Call → List Call
without_refused s [] = []
without_refused s (c ∷ calls) = cond (is_accepted (reply_after s c)) (c ∷ without_refused (state_after s c) calls) (without_refused (state_after s c) calls)

-- another order of a list
pub data Reordered {A : Type 0} : List A → List A → Type 0 where
  none : Reordered [] []
  same : (x : A) {xs ys : List A} → Reordered xs ys → Reordered (x ∷ xs) (x ∷ ys)
  swap : (x y : A) (xs : List A) → Reordered (x ∷ y ∷ xs) (y ∷ x ∷ xs)
  both : {xs ys zs : List A} → Reordered xs ys → Reordered ys zs → Reordered xs zs

pub data Every {A : Type 0} (P : A → Type 0) : List A → Type 0 where
  nil : Every P []
  cons : {x : A} {xs : List A} → P x → Every P xs → Every P (x ∷ xs)

-- a call of a stretch of one colour: a draw or a dot of that colour, or a print, and no layer or marker call
abbrev pub OfColour : ℕ → Call → Type 0
OfColour k (draw shape colour) = colour ≡ k
OfColour k (points pairs colour) = colour ≡ k
OfColour k (dot column row colour) = colour ≡ k
OfColour k layer = ⊥
OfColour k (marker m character) = ⊥
OfColour k (print x y text choice) = Unit {0}
OfColour k (render area words) = ⊥

abbrev pub is_print : Call → Bool
is_print (draw shape colour) = false
is_print (points pairs colour) = false
is_print (dot column row colour) = false
is_print layer = false
is_print (marker m character) = false
is_print (print x y text choice) = true
is_print (render area words) = false

-- the lengths of the labels that have a place, together
abbrev pub length_at : Option (ℕ × ℕ) → ℕ → ℕ
length_at None n = 0
length_at (Some (column, row)) n = n

abbrev pub shown_lengths : List Placed → ℕ
shown_lengths [] = 0
shown_lengths (l ∷ labels) = length_at l.place (length l.text) + shown_lengths labels

-- For every accepted opening over any stores, and every list of calls after it:
pub record Promise : Type 0 where
  -- the replies are the answers that the calls' contracts give, with the screen that a render leaves
  pub answers : (s : State) (c : Call) → reply_after s c ≡ reply_of (answer_on s c) (cell_on (screen_left s c))
  -- each reply is the ledger's: refusals, painted numbers, and the render's cells and painted count
  pub ledger : (o : Opening) (cells labels : List ℕ) → open_refusal o (length cells) (length labels) ≡ 0 → (calls : List Call)
      → replies (open_state o cells labels) calls ≡ ledger_replies o (opened o) calls
  -- the first accepted render's painted count is the sum of the painted numbers before it
  pub sum : (o : Opening) (cells labels : List ℕ) → open_refusal o (length cells) (length labels) ≡ 0 → (calls : List Call) (area : Area) (words : List ℕ) (f : ℕ → ScreenCell) (n : ℕ)
      → first_shown (replies (open_state o cells labels) calls) ≡ done → first_shown (replies (open_state o cells labels) (calls ++ (render area words ∷ []))) ≡ shown f n
      → n ≡ painted_sum (replies (open_state o cells labels) calls)
  -- dropping the refused calls changes nothing
  pub shorter : (o : Opening) (cells labels : List ℕ) → open_refusal o (length cells) (length labels) ≡ 0 → (calls : List Call)
      → (first_shown (replies (open_state o cells labels) (without_refused (open_state o cells labels) calls)) ≡ first_shown (replies (open_state o cells labels) calls))
      × NoRefusal (replies (open_state o cells labels) (without_refused (open_state o cells labels) calls))
  -- any other order of a stretch of one colour, prints keeping their own order, shows the same and refuses nothing
  pub order : (o : Opening) (cells labels : List ℕ) → open_refusal o (length cells) (length labels) ≡ 0 → (calls : List Call) (k : ℕ) (front stretch other rest : List Call)
      → without_refused (open_state o cells labels) calls ≡ front ++ (stretch ++ rest) → Every (OfColour k) stretch → Reordered stretch other → keep is_print stretch ≡ keep is_print other
      → (first_shown (replies (open_state o cells labels) (front ++ (other ++ rest))) ≡ first_shown (replies (open_state o cells labels) calls))
      × NoRefusal (replies (open_state o cells labels) (front ++ (other ++ rest)))
  -- 'the report's number of label cells, at most the shown labels' lengths together'
  pub report : (c : Canvas) (labels : List Placed) → label_cells c labels ≤ shown_lengths labels
