-- The ledger's painted count: what each call adds to it is that call's painted number, so that after a list of calls it is their sum.
use mathlib.Core.Path.{◌≡◌, refl, ◌∙◌}
use mathlib.Core.List.{List, [], ◌∷◌, ◌++◌, append-nil}
use Prim.Native.Nat.{ℕ, zero, suc, ◌+◌}
use native.Mathlib.Omega.{arith}
use lib.ListN.{length, length-append}
use Rattle.grids.specs.Lists.{foldl}
use Rattle.grids.specs.Dots.{Inked}
use Rattle.lines.proofs.PaintedDots.{flat_append}
use Rattle.ledger.specs.Screen.{ScreenCell}
use Rattle.ledger.specs.Calls.{Call, draw, points, dot, layer, marker, print, render}
use Rattle.ledger.specs.declared.state.Opening.{Opening}
use Rattle.ledger.specs.Ledger.{Ledger, opened, painted_in, with_dots, with_layer, added_dots, refusal_in, accepted, Reply, refused, painted, done, shown, reply, unless, reply_unless, ledger_after, ledger_reply, ledger_replies}
use Rattle.ledger.specs.Promise.{first_shown, painted_sum}
use Rattle.ledger.specs.declared.screen.Area.{Area}

-- ---- what a call adds
pub painted-with-dots : (l : Ledger) (dots : List Inked) → painted_in (with_dots l dots) ≡ painted_in l + length dots
unfolding painted_in
painted-with-dots l dots = simp (flat_append, append-nil, length-append) (omega arith)

pub painted-with-layer : (l : Ledger) (m character : ℕ) → painted_in (with_layer l m character) ≡ painted_in l
unfolding painted_in
painted-with-layer l m character = simp (flat_append, append-nil)

abbrev painted_number : Reply → ℕ
painted_number (refused n) = 0
painted_number (painted n) = n
painted_number done = 0
painted_number (shown cells n) = 0

painted-accepted : (o : Opening) (l : Ledger) (c : Call) → painted_in (accepted o l c) ≡ painted_in l + painted_number (reply o l c)
unfolding painted_in
painted-accepted o l (draw shape colour) = painted-with-dots l (added_dots o l.last.marker (draw shape colour))
painted-accepted o l (points pairs colour) = painted-with-dots l (added_dots o l.last.marker (points pairs colour))
painted-accepted o l (dot column row colour) = painted-with-dots l (added_dots o l.last.marker (dot column row colour))
painted-accepted o l layer = painted-with-layer l l.last.marker l.last.character ∙ omega arith
painted-accepted o l (marker m character) = painted-with-layer l m character ∙ omega arith
painted-accepted o l (print x y text choice) = omega arith
painted-accepted o l (render area words) = painted-with-layer l l.last.marker l.last.character ∙ omega arith

painted-after : (o : Opening) (l : Ledger) (c : Call) → painted_in (ledger_after o l c) ≡ painted_in l + painted_number (ledger_reply o l c)
unfolding ledger_after ledger_reply
painted-after o l c = go (refusal_in o l c)
  where
    go : (n : ℕ) → painted_in (unless n l (accepted o l c)) ≡ painted_in l + painted_number (reply_unless n (reply o l c))
    go zero = painted-accepted o l c
    go (suc n) = omega arith

-- ---- a list of calls
abbrev pub ledger_through : Opening → Ledger → List Call → Ledger
ledger_through o l calls = foldl (ledger_after o) l calls

sum-cons : (r : Reply) (others : List Reply) → painted_sum (r ∷ others) ≡ painted_number r + painted_sum others
sum-cons (refused n) others = omega arith
sum-cons (painted n) others = refl
sum-cons done others = omega arith
sum-cons (shown cells n) others = omega arith

painted-through : (o : Opening) (calls : List Call) (l : Ledger) → painted_in (ledger_through o l calls) ≡ painted_in l + painted_sum (ledger_replies o l calls)
painted-through o [] l = omega arith
painted-through o (c ∷ calls) l =
    omega (arith, painted-through o calls (ledger_after o l c), painted-after o l c, sum-cons (ledger_reply o l c) (ledger_replies o (ledger_after o l c) calls))

-- ---- a render that is the first to be accepted shows the count
shown-last : (o : Opening) (calls : List Call) (area : Area) (words : List ℕ) (l : Ledger) (f : ℕ → ScreenCell) (n : ℕ)
    → first_shown (ledger_replies o l calls) ≡ done → first_shown (ledger_replies o l (calls ++ (render area words ∷ []))) ≡ shown f n → n ≡ painted_in (ledger_through o l calls)
unfolding ledger_reply
shown-last o [] area words l f n none some = go (refusal_in o l (render area words)) some
  where
    go : (k : ℕ) → first_shown (reply_unless k (reply o l (render area words)) ∷ []) ≡ shown f n → n ≡ painted_in l
    go zero some = cc
    go (suc k) some = absurd (let z : ◌≡◌ {A = ℕ} 0 1 = cc in omega arith)
shown-last o (c ∷ calls) area words l f n none some = go (ledger_reply o l c) (shown-last o calls area words (ledger_after o l c) f n) none some
  where
    next : Ledger
    next = ledger_after o l c

    go : (r : Reply)
        → (first_shown (ledger_replies o next calls) ≡ done → first_shown (ledger_replies o next (calls ++ (render area words ∷ []))) ≡ shown f n → n ≡ painted_in (ledger_through o next calls))
        → first_shown (r ∷ ledger_replies o next calls) ≡ done → first_shown (r ∷ ledger_replies o next (calls ++ (render area words ∷ []))) ≡ shown f n → n ≡ painted_in (ledger_through o next calls)
    go (refused k) ih none some = ih none some
    go (painted k) ih none some = ih none some
    go done ih none some = ih none some
    go (shown g k) ih none some = absurd (let z : ◌≡◌ {A = ℕ} 0 1 = cc in omega arith)

painted-opened : (o : Opening) → painted_in (opened o) ≡ 0
unfolding painted_in
painted-opened o = refl

pub ledger-sum : (o : Opening) (calls : List Call) (area : Area) (words : List ℕ) (f : ℕ → ScreenCell) (n : ℕ)
    → first_shown (ledger_replies o (opened o) calls) ≡ done → first_shown (ledger_replies o (opened o) (calls ++ (render area words ∷ []))) ≡ shown f n → n ≡ painted_sum (ledger_replies o (opened o) calls)
ledger-sum o calls area words f n none some =
    omega (arith, shown-last o calls area words (opened o) f n none some, painted-through o calls (opened o), painted-opened o)
