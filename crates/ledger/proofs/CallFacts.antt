-- What the proofs of the calls go by: a call's answer and the state after it, by its refusal; what is painted; and what an accepted call has room for.
use mathlib.Core.Path.{◌≡◌, refl}
use mathlib.Core.List.{List, [], ◌∷◌}
use Prim.Native.Nat.{ℕ}
use Rattle.grids.specs.Lists.{foldl}
use Rattle.view.specs.declared.point.View.{View}
use Rattle.walk.specs.declared.clip.Pair.{Pair}
use Rattle.shapes.specs.declared.painters.Shape.{Shape}
use Rattle.lines.specs.Painted.{dot_at}
use Rattle.shapes.specs.Drawing.{shape_dots}
use Rattle.shapes.specs.Shapes.{pair_dots}
use Rattle.ledger.specs.Screen.{Placed}
use Rattle.ledger.specs.Calls.{Call, draw, points, dot, layer, refusal, call_dots}
use Rattle.ledger.specs.declared.state.Opening.{Opening}
use Rattle.ledger.specs.declared.state.Canvas.{Canvas}
use Rattle.ledger.specs.declared.screen.Area.{Area}
use Rattle.ledger.specs.Ledger.{unless}
use Rattle.ledger.specs.Model.{State, refusal_on, state_after, accepted_on, rendered_screen, laid_screen, written_label}
use Rattle.ledger.specs.Outcomes.{answer_on, answer_unless, accepted_answer}
use Rattle.ledger.proofs.CallSteps.{refusal-by}
use Rattle.ledger.proofs.PaintSteps.{draw_room, points_room, dot_room}
use Rattle.ledger.proofs.LabelSteps.{print_room, render_room}

pub answer-is : (s : State) (c : Call) → answer_on s c ≡ answer_unless (refusal_on s c) (accepted_answer s c)
unfolding answer_on
answer-is s c = refl

pub after-is : (s : State) (c : Call) → state_after s c ≡ unless (refusal_on s c) s (accepted_on s c)
unfolding state_after
after-is s c = refl

pub layer-free : (o : Opening) (draws labels m : ℕ) → refusal o draws labels m layer ≡ 0
unfolding refusal
layer-free o draws labels m = refl

pub draw-dots : (v : View) (shape : Shape) (colour : ℕ) → call_dots v (draw shape colour) ≡ shape_dots v shape
unfolding call_dots
draw-dots v shape colour = refl

pub points-dots : (v : View) (pairs : List Pair) (colour : ℕ) → call_dots v (points pairs colour) ≡ pair_dots v pairs
unfolding call_dots
points-dots v pairs colour = refl

pub dot-dots : (v : View) (column row colour : ℕ) → call_dots v (dot column row colour) ≡ dot_at column row ∷ []
unfolding call_dots
dot-dots v column row colour = refl

pub screen-is : (c : Canvas) (cells : List ℕ) (labels : List Placed) (a : Area) (words : List ℕ) → rendered_screen c cells labels a words ≡ foldl (written_label c a) (laid_screen c cells a words) labels
unfolding rendered_screen
screen-is c cells labels a words = refl

pub ruleset calls = (answer-is, after-is, refusal-by, layer-free, draw-dots, points-dots, dot-dots, screen-is, draw_room, points_room, dot_room, print_room, render_room)
