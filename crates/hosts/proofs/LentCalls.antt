-- A call on lent words is the call on the canvas that they mean, put into the words again.
use Prim.Native.Nat.{ℕ, zero, suc}
use mathlib.Core.Bool.{true, false}
use mathlib.Core.Path.{◌≡◌, refl, ap, ap₂, ◌∙◌}
use Rattle.std.specs.Prelude.{Option, Result, Ok, Err}
use mathlib.Core.List.{List}
use lib.Ieee.{Float}
use lib.ListN.{length}
use Rattle.ledger.specs.Calls.{Call, draw, points, dot, layer, marker, print, render, open_refusal}
use Rattle.ledger.specs.declared.state.Opening.{Opening}
use Rattle.ledger.specs.Ledger.{unless}
use Rattle.ledger.specs.Model.{State, open_cells, refusal_on, accepted_on, state_after}
use Rattle.ledger.specs.Outcomes.{given, accepted_answer, answer_unless, answer_on, open_called, screen_on}
use Rattle.ledger.specs.declared.state.Canvas.{Canvas}
use Rattle.ledger.specs.Answer.{Answer, Done, Called}
use Rattle.ledger.specs.declared.screen.Area.{Area}
use Rattle.refusals.specs.declared.refusal.Refusal.{Refusal}
use Rattle.refusals.specs.Refusals.{number_in}
use Rattle.canvas.specs.declared.calls.Rendered.{Rendered as Counts}
use Rattle.canvas.specs.Results.{opened, painted, done, rendered}
use Rattle.words.specs.Words.{short_words, canvas_of, all_words, status_of, words_after, words_left, painted_after, label_cells_after}
use Rattle.words.specs.Hosted.{Host, state_of, host_after, host_open_refusal, host_opened}
use Rattle.hosts.specs.Calls.{Answered, Marked, Drawn, Printed, Rendered, Opened}

-- ---- the status is the refusal's number
accepted-status : (s : State) (c : Call) → status_of (accepted_answer s c) ≡ 0
accepted-status s (draw shape colour) = refl
accepted-status s (points pairs colour) = refl
accepted-status s (dot column row colour) = refl
accepted-status s layer = refl
accepted-status s (marker m character) = refl
accepted-status s (print x y text choice) = refl
accepted-status s (render area words) = refl

status-is : (s : State) (c : Call) → status_of (answer_on s c) ≡ refusal_on s c
unfolding answer_on
status-is s c = go (refusal_on s c)
  where
    go : (n : ℕ) → status_of (answer_unless n (accepted_answer s c)) ≡ n
    go zero = accepted-status s c
    go (suc n) = refl

open-status : (n : ℕ) → status_of (answer_unless n Done) ≡ n
open-status zero = refl
open-status (suc n) = refl

-- ---- a store that is lent to be read stays
abbrev pub ReadsLabels : Call → Type 0
ReadsLabels (draw shape colour) = Unit {0}
ReadsLabels (points pairs colour) = Unit {0}
ReadsLabels (dot column row colour) = Unit {0}
ReadsLabels layer = Unit {0}
ReadsLabels (marker m character) = Unit {0}
ReadsLabels (print x y text choice) = ⊥
ReadsLabels (render area words) = Unit {0}

labels-accepted : (s : State) (c : Call) → ReadsLabels c → s.labels ≡ (accepted_on s c).labels
labels-accepted s (draw shape colour) reads = refl
labels-accepted s (points pairs colour) reads = refl
labels-accepted s (dot column row colour) reads = refl
labels-accepted s layer reads = refl
labels-accepted s (marker m character) reads = refl
labels-accepted s (print x y text choice) reads = absurd reads
labels-accepted s (render area words) reads = refl

labels-stay : (s : State) (c : Call) → ReadsLabels c → s.labels ≡ (state_after s c).labels
unfolding state_after
labels-stay s c reads = go (refusal_on s c)
  where
    go : (n : ℕ) → s.labels ≡ (unless n s (accepted_on s c)).labels
    go zero = labels-accepted s c reads
    go (suc n) = refl

cells_stay : (s : State) (x y : Float) (text : List ℕ) (choice : Option ℕ) → s.cells ≡ (state_after s (print x y text choice)).cells
unfolding state_after
cells_stay s x y text choice = go (refusal_on s (print x y text choice))
  where
    go : (n : ℕ) → s.cells ≡ (unless n s (accepted_on s (print x y text choice))).cells
    go zero = refl
    go (suc n) = refl

-- ---- a call: what `finish` leaves of its result
pub record Finished (h : Host) (answer : Answer) (after : Canvas) (r : ℕ) (words : List ℕ) : Type 0 where
  pub status : r ≡ status_of answer
  pub words_left : words ≡ words_after h.words answer after

module _ (h : Host) {after : Canvas} {r : ℕ} {words : List ℕ} where
  pub painted-finished : (called : Result ℕ Refusal) → r ≡ number_in called → words ≡ words_left h.words called after → Finished h (painted called) after r words
  painted-finished (Ok n) s w = record { status = s; words_left = w }
  painted-finished (Err refusal) s w = record { status = s; words_left = w }

  pub done-finished : (called : Result (Unit {0}) Refusal) → r ≡ number_in called → words ≡ words_left h.words called after → Finished h (done called) after r words
  done-finished (Ok x) s w = record { status = s; words_left = w }
  done-finished (Err refusal) s w = record { status = s; words_left = w }

  pub rendered-finished : (called : Result Counts Refusal) → r ≡ number_in called → words ≡ words_left h.words called after → Finished h (rendered called) after r words
  rendered-finished (Ok x) s w = record { status = s; words_left = w }
  rendered-finished (Err refusal) s w = record { status = s; words_left = w }

module _ (h : Host) (c : Call) {canvas after : Canvas} {answer : Answer} (loaded : canvas ≡ canvas_of h.words)
    (answer_is : answer ≡ answer_on (given canvas h.cells h.labels) c) (after_is : after ≡ (state_after (given canvas h.cells h.labels) c).canvas) where
  answer-lem : answer ≡ answer_on (state_of h) c
  answer-lem = answer_is ∙ ap (λ (k : Canvas). answer_on (given k h.cells h.labels) c) loaded

  after-lem : after ≡ (state_after (state_of h) c).canvas
  after-lem = after_is ∙ ap (λ (k : Canvas). (state_after (given k h.cells h.labels) c).canvas) loaded

  answered : {r : ℕ} {words : List ℕ} → Finished h answer after r words → Answered h c r words
  unfolding host_after
  answered w = record {
    status = w.status ∙ ap status_of answer-lem ∙ status-is (state_of h) c;
    words_left = w.words_left ∙ ap₂ (words_after h.words) answer-lem after-lem;
  }

  pub marked : {r : ℕ} {words cells : List ℕ} → ReadsLabels c → cells ≡ (state_after (given canvas h.cells h.labels) c).cells
      → Finished h answer after r words → Marked h c r words cells
  unfolding host_after
  marked reads e w = record {
    answered = answered w;
    cells_left = e ∙ ap (λ (k : Canvas). (state_after (given k h.cells h.labels) c).cells) loaded;
    labels_left = labels-stay (state_of h) c reads;
  }

  pub drawn : (before : ℕ) {r : ℕ} {words cells : List ℕ} {number : ℕ} → ReadsLabels c → cells ≡ (state_after (given canvas h.cells h.labels) c).cells
      → Finished h answer after r words → number ≡ painted_after before answer → Drawn h c before r words cells number
  drawn before reads e w p = record { marked = marked reads e w; painted_left = p ∙ ap (painted_after before) answer-lem }

-- ---- a print: the labels are written, and the cells read
module _ (h : Host) (x y : Float) (text : List ℕ) (choice : Option ℕ) {canvas after : Canvas} {answer : Answer} (loaded : canvas ≡ canvas_of h.words)
    (answer_is : answer ≡ answer_on (given canvas h.cells h.labels) (print x y text choice))
    (after_is : after ≡ (state_after (given canvas h.cells h.labels) (print x y text choice)).canvas) where
  pub printed : {r : ℕ} {words labels : List ℕ} → labels ≡ (state_after (given canvas h.cells h.labels) (print x y text choice)).labels
      → Finished h answer after r words → Printed h (print x y text choice) r words labels
  unfolding host_after
  printed e w = record {
    answered = answered h (print x y text choice) loaded answer_is after_is w;
    cells_left = cells_stay (state_of h) x y text choice;
    labels_left = e ∙ ap (λ (k : Canvas). (state_after (given k h.cells h.labels) (print x y text choice)).labels) loaded;
  }

-- ---- a render: the screen and both numbers
module _ (h : Host) (area : Area) (screen : List ℕ) {canvas after : Canvas} {answer : Answer} (loaded : canvas ≡ canvas_of h.words)
    (answer_is : answer ≡ answer_on (given canvas h.cells h.labels) (render area screen))
    (after_is : after ≡ (state_after (given canvas h.cells h.labels) (render area screen)).canvas) where
  pub shown : (before cells_before : ℕ) {r : ℕ} {words cells screen_after : List ℕ} {number label_cells : ℕ}
      → cells ≡ (state_after (given canvas h.cells h.labels) (render area screen)).cells → screen_after ≡ screen_on (given canvas h.cells h.labels) area screen
      → Finished h answer after r words → number ≡ painted_after before answer → label_cells ≡ label_cells_after cells_before answer
      → Rendered h area screen before cells_before r words cells screen_after number label_cells
  shown before cells_before e f w p l = record {
    drawn = drawn h (render area screen) loaded answer_is after_is before tt e w p;
    screen_left = f ∙ ap (λ (k : Canvas). screen_on (given k h.cells h.labels) area screen) loaded;
    label_cells_left = l ∙ ap (label_cells_after cells_before) (answer-lem h (render area screen) loaded answer_is after_is);
  }

-- ---- an opening
module _ (h : Host) (o : Opening) where
  pub opened-short : short_words h.words ≡ true → Opened h o 5 h.words h.cells
  unfolding host_open_refusal host_opened all_words
  opened-short e = record { status = rw e; words_left = rw e; cells_left = rw e; labels_left = refl }

  pub opened-long : (called : Result Canvas Refusal) {r : ℕ} {words cells : List ℕ} → short_words h.words ≡ false → opened called ≡ open_called o h.cells (length h.labels)
      → cells ≡ open_cells o h.cells (length h.labels) → words ≡ all_words h.words (opened called).canvas → r ≡ number_in called → Opened h o r words cells
  unfolding host_open_refusal host_opened
  opened-long called e is cells-lem words-lem r-lem = record {
    status = rw e (r-lem ∙ numbered called ∙ ap (λ (d : Called). status_of d.answer) is ∙ open-status (open_refusal o (length h.cells) (length h.labels)));
    words_left = words-lem ∙ ap (λ (d : Called). all_words h.words d.canvas) is;
    cells_left = rw e cells-lem;
    labels_left = refl;
  }
    where
      numbered : (called : Result Canvas Refusal) → number_in called ≡ status_of (opened called).answer
      numbered (Ok canvas) = refl
      numbered (Err refusal) = refl
