-- The calls on lent words and stores answer as the calls on the canvas that the words mean.
use Prim.Native.Nat.{ℕ, zero, suc}
use mathlib.Core.Path.{◌≡◌, refl, sym, ◌∙◌}
use mathlib.Core.Bool.{Bool, true, false, cond}
use mathlib.Core.List.{List, [], ◌∷◌}
use native.Mathlib.Omega.{arith}
use lib.Ieee.{binary64}
use lib.Ieee.Bits.{of_bits-to_bits, of_bits-fits}
use lib.ListN.{length}
use Rattle.floats.specs.Arithmetic.{bits}
use Rattle.ledger.specs.Screen.{cell_on}
use Rattle.ledger.specs.Calls.{Call, draw, points, dot, layer, marker, print, render, open_refusal}
use Rattle.ledger.specs.declared.state.Opening.{Opening}
use Rattle.ledger.specs.Ledger.{refused, done, opened, unless, ledger_replies}
use Rattle.ledger.specs.Model.{open_canvas, opened_canvas, zero_canvas, refusal_on, accepted_on, state_after, replies}
use Rattle.ledger.specs.Outcomes.{accepted_answer, answer_unless, answer_on, reply_of, screen_left}
use Rattle.ledger.specs.declared.state.Canvas.{Canvas}
use Rattle.ledger.specs.Answer.{Answer, Refused, Painted, Done, Rendered}
use Rattle.ledger.specs.declared.screen.ScreenCell.{ScreenCell}
use Rattle.ledger.proofs.Promise.{promise}
use Rattle.words.specs.Words.{short_words, kept_words, all_words, changed_words, cleared_words, fixed_words, words_after, painted_after}
use Rattle.form.specs.Fields.{bits_of}
use Rattle.words.specs.Hosted.{Host, host, state_of, host_after, host_reply, seen_as, seen_reply, host_open_refusal, host_opened, Step, opening, calling, step_after, step_reply, host_replies, model_after, model_reply, model_replies, callings, TypedOpening, Typed, AllTyped, Hosted}
use Rattle.words.proofs.Laws.{Wide, all-canvas, short-kept, short-all, length-changed, length-cleared, length-fixed, cleared-canvas}
use Rattle.words.proofs.Accepted.{short-refusal, after-state}
use Rattle.words.proofs.Books.{books-open}

-- ---- a refused call

kept-host : (h : Host) (c : Call) → (refusal_on (state_of h) c ≡ 0 → ⊥) → host_after h c ≡ h
unfolding host_after answer_on state_after
kept-host h c = go (refusal_on (state_of h) c)
  where
    go : (n : ℕ) → (n ≡ 0 → ⊥)
        → host (words_after h.words (answer_unless n (accepted_answer (state_of h) c)) (unless n (state_of h) (accepted_on (state_of h) c)).canvas) (unless n (state_of h) (accepted_on (state_of h) c)).cells (unless n (state_of h) (accepted_on (state_of h) c)).labels
        ≡ h
    go zero some = absurd (some refl)
    go (suc n) some = refl

short-reply : (h : Host) (c : Call) → short_words h.words ≡ true → host_reply h c ≡ refused 5
unfolding answer_on
short-reply h c short = rw (short-refusal h c short)

short-step : (h : Host) (t : Step) → short_words h.words ≡ true → (step_reply h t ≡ refused 5) × (step_after h t ≡ h)
unfolding host_open_refusal host_opened all_words
short-step h (opening o) short = (rw short, rw short)
short-step h (calling c) short = (short-reply h c short, kept-host h c (λ e. omega (arith, short-refusal h c short)))

-- ---- what a host sees

seen-reply : (h : Host) (c : Call) (before : ℕ) → seen_reply h c before ≡ host_reply h c
unfolding answer_on
seen-reply h c before = go (refusal_on (state_of h) c) (cell_on (screen_left (state_of h) c))
  where
    accepted : (c : Call) (cells : ℕ → ScreenCell) → seen_as 0 c (painted_after before (accepted_answer (state_of h) c)) cells ≡ reply_of (accepted_answer (state_of h) c) cells
    accepted (draw shape colour) cells = refl
    accepted (points pairs colour) cells = refl
    accepted (dot column row colour) cells = refl
    accepted layer cells = refl
    accepted (marker m character) cells = refl
    accepted (print x y text choice) cells = refl
    accepted (render area words) cells = refl

    go : (n : ℕ) (cells : ℕ → ScreenCell) → seen_as n c (painted_after before (answer_unless n (accepted_answer (state_of h) c))) cells ≡ reply_of (answer_unless n (accepted_answer (state_of h) c)) cells
    go (suc n) cells = refl
    go zero cells = accepted c cells

-- ---- an opening

wide-zero : Wide zero_canvas
wide-zero =
    let back : bits (bits_of (bits 0)) ≡ bits 0 = of_bits-to_bits binary64 (bits 0) (of_bits-fits binary64 0) in
    record {
      narrow = record { character = omega arith; labels = omega arith; draws = omega arith; marker = omega arith };
      columns = omega arith;
      rows = omega arith;
      background = omega arith;
      left = back;
      right = back;
      bottom = back;
      top = back;
    }

wide-opened : (o : Opening) → TypedOpening o → Wide (opened_canvas o)
wide-opened o typed = record {
  narrow = record { character = typed.character; labels = omega arith; draws = omega arith; marker = typed.marker };
  columns = typed.columns;
  rows = typed.rows;
  background = typed.background;
  left = of_bits-to_bits binary64 o.bounds.left typed.left;
  right = of_bits-to_bits binary64 o.bounds.right typed.right;
  bottom = of_bits-to_bits binary64 o.bounds.bottom typed.bottom;
  top = of_bits-to_bits binary64 o.bounds.top typed.top;
}

wide-open : (o : Opening) (cells : List ℕ) (labels : ℕ) → TypedOpening o → Wide (open_canvas o cells labels)
wide-open o cells labels typed = go (open_refusal o (length cells) labels)
  where
    go : (n : ℕ) → Wide (unless n zero_canvas (opened_canvas o))
    go zero = wide-opened o typed
    go (suc n) = wide-zero

opened-state : (h : Host) (o : Opening) → short_words h.words ≡ false → TypedOpening o → state_of (host_opened h o) ≡ model_after (state_of h) (opening o)
unfolding host_opened
opened-state h o long typed = rw (all-canvas h.words long (open_canvas o h.cells (length h.labels)) (wide-open o h.cells (length h.labels) typed), long)

-- ---- one step

step-reply : (h : Host) (t : Step) → short_words h.words ≡ false → step_reply h t ≡ model_reply (state_of h) t
unfolding host_open_refusal
step-reply h (opening o) long = rw long
step-reply h (calling c) long = sym (promise.answers (state_of h) c)

step-state : (h : Host) (t : Step) → short_words h.words ≡ false → Typed t → state_of (step_after h t) ≡ model_after (state_of h) t
step-state h (opening o) long typed = opened-state h o long typed
step-state h (calling c) long typed = after-state h c typed

short-after : (words : List ℕ) (a : Answer) (c : Canvas) → short_words (words_after words a c) ≡ short_words words
short-after words (Refused n) c = refl
short-after words (Painted n) c = short-kept words c
short-after words Done c = short-kept words c
short-after words (Rendered n m) c = short-kept words c

step-short : (h : Host) (t : Step) → short_words (step_after h t).words ≡ short_words h.words
unfolding host_opened host_after
step-short h (opening o) = short-all h.words _
step-short h (calling c) = short-after h.words (answer_on (state_of h) c) (state_after (state_of h) c).canvas

-- ---- every list

pub same-replies : (steps : List Step) (h : Host) → short_words h.words ≡ false → AllTyped steps → host_replies h steps ≡ model_replies (state_of h) steps
same-replies [] h long typed = refl
same-replies (t ∷ steps) h long typed =
    let rest = same-replies steps (step_after h t) (step-short h t ∙ long) typed.1 in
    rw (step-reply h t long, rest, step-state h t long typed.0)

calls-replies : (cs : List Call) (h : Host) → AllTyped (callings cs) → host_replies h (callings cs) ≡ replies (state_of h) cs
calls-replies [] h typed = refl
calls-replies (c ∷ cs) h typed =
    let rest = calls-replies cs (host_after h c) typed.1 in
    rw (sym (promise.answers (state_of h) c), rest, after-state h c typed.0)

-- ---- the ledger

accepted-open : (h : Host) (o : Opening) → host_open_refusal h o ≡ 0 → (short_words h.words ≡ false) × (open_refusal o (length h.cells) (length h.labels) ≡ 0)
unfolding host_open_refusal
accepted-open h o = go (short_words h.words)
  where
    go : (short : Bool) → cond short 5 (open_refusal o (length h.cells) (length h.labels)) ≡ 0 → (short ≡ false) × (open_refusal o (length h.cells) (length h.labels) ≡ 0)
    go true e = absurd (omega arith)
    go false e = (refl, e)

ledger-replies : (h : Host) (o : Opening) (cs : List Call) → host_open_refusal h o ≡ 0 → TypedOpening o → AllTyped (callings cs)
    → host_replies h (opening o ∷ callings cs) ≡ done ∷ ledger_replies o (opened o) cs
ledger-replies h o cs e typed all =
    let both = accepted-open h o e in
    rw (e, calls-replies cs (host_opened h o) all, opened-state h o both.0 typed, promise.ledger o h.cells h.labels both.1 cs)

-- ---- lengths

length-kept : (words : List ℕ) (c : Canvas) → length (kept_words words c) ≡ length words
unfolding kept_words
length-kept words c = go (short_words words)
  where
    go : (short : Bool) → length (cond short words (changed_words words c)) ≡ length words
    go true = refl
    go false = length-changed words c

length-all : (words : List ℕ) (c : Canvas) → length (all_words words c) ≡ length words
unfolding all_words
length-all words c = go (short_words words)
  where
    go : (short : Bool) → length (cond short words (changed_words (fixed_words (cleared_words words) c) c)) ≡ length words
    go true = refl
    go false = length-changed (fixed_words (cleared_words words) c) c ∙ length-fixed (cleared_words words) c ∙ length-cleared words

length-after : (words : List ℕ) (a : Answer) (c : Canvas) → length (words_after words a c) ≡ length words
length-after words (Refused n) c = refl
length-after words (Painted n) c = length-kept words c
length-after words Done c = length-kept words c
length-after words (Rendered n m) c = length-kept words c

step-length : (h : Host) (t : Step) → length (step_after h t).words ≡ length h.words
unfolding host_opened host_after
step-length h (opening o) = length-all h.words _
step-length h (calling c) = length-after h.words (answer_on (state_of h) c) (state_after (state_of h) c).canvas

pub hosted : Hosted
hosted = record {
  same = λ h steps long typed. same-replies steps h long typed;
  calls-only = λ h cs typed. calls-replies cs h typed;
  ledger = ledger-replies;
  books = λ h o steps long typed. same-replies (opening o ∷ steps) h long typed ∙ books-open steps (state_of h) o;
  seen = seen-reply;
  kept = kept-host;
  short = short-step;
  unread = cleared-canvas;
  long = step-length;
}
