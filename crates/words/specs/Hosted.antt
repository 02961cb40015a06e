-- The calls on lent words and stores: what each leaves and answers, and one claim about every list of them.
use Rattle.std.specs.Prelude.{◌≡◌, true, false, cond, List, [], ◌∷◌, ℕ, zero, suc, ◌<◌, ◌^◌, T, Float, length}
use Rattle.std.specs.Float.{binary64}
use Rattle.std.specs.Float.Ieee.{fits}
use Rattle.ledger.specs.Screen.{cell_on}
use Rattle.ledger.specs.Calls.{Call, draw, points, dot, layer, marker, print, render, open_refusal}
use Rattle.ledger.specs.declared.state.Opening.{Opening}
use Rattle.ledger.specs.Ledger.{opened, Reply, refused, painted, done, shown, reply_unless, Ledger, ledger_after, ledger_reply, ledger_replies}
use Rattle.ledger.specs.Model.{State, open_canvas, open_cells, refusal_on, state_after, reply_after, replies}
use Rattle.ledger.specs.Outcomes.{given, answer_on, reply_of, screen_left}
use Rattle.ledger.specs.declared.screen.ScreenCell.{ScreenCell}
use Rattle.words.specs.Words.{short_words, canvas_of, all_words, cleared_words, words_after, painted_after}

-- what a host lends: a canvas' words and its two stores
pub record Host : Type 0 where
  pub words : List ℕ
  pub cells : List ℕ
  pub labels : List ℕ

abbrev pub host : List ℕ → List ℕ → List ℕ → Host
host words cells labels = record { words = words; cells = cells; labels = labels }

abbrev pub state_of : Host → State
state_of h = given (canvas_of h.words) h.cells h.labels

-- ---- what the exported functions' contracts say: the lent lists after a call, and its answer with the screen that it leaves

unfoldable pub host_after : Host → Call → Host
host_after h c = record {
  words = words_after h.words (answer_on (state_of h) c) (state_after (state_of h) c).canvas;
  cells = (state_after (state_of h) c).cells;
  labels = (state_after (state_of h) c).labels;
}

abbrev pub host_reply : Host → Call → Reply
host_reply h c = reply_of (answer_on (state_of h) c) (cell_on (screen_left (state_of h) c))

-- the same as a host sees it: by the number that the function answers, the painted number and the screen's cells after it
abbrev pub seen_as : ℕ → Call → ℕ → (ℕ → ScreenCell) → Reply
seen_as (suc number) c n cells = refused (suc number)
seen_as zero (draw shape colour) n cells = painted n
seen_as zero (points pairs colour) n cells = painted n
seen_as zero (dot column row colour) n cells = painted n
seen_as zero layer n cells = done
seen_as zero (marker m character) n cells = done
seen_as zero (print x y text choice) n cells = done
seen_as zero (render area words) n cells = shown cells n

abbrev pub seen_reply : Host → Call → ℕ → Reply
seen_reply h c before = seen_as (refusal_on (state_of h) c) c (painted_after before (answer_on (state_of h) c)) (cell_on (screen_left (state_of h) c))

-- an opening: a list that is too short meets 5 before all else and stays; else all words are written, zeros where it is refused
unfoldable pub host_open_refusal : Host → Opening → ℕ
host_open_refusal h o = cond (short_words h.words) 5 (open_refusal o (length h.cells) (length h.labels))

unfoldable pub host_opened : Host → Opening → Host
host_opened h o = record {
  words = all_words h.words (open_canvas o h.cells (length h.labels));
  cells = cond (short_words h.words) h.cells (open_cells o h.cells (length h.labels));
  labels = h.labels;
}

-- ---- lists of them, openings among them

pub data Step : Type 0 where
  opening : Opening → Step
  calling : Call → Step

abbrev pub step_after : Host → Step → Host
step_after h (opening o) = host_opened h o
step_after h (calling c) = host_after h c

abbrev pub step_reply : Host → Step → Reply
step_reply h (opening o) = reply_unless (host_open_refusal h o) done
step_reply h (calling c) = host_reply h c

-- each gets the words and stores as the one before left them
abbrev pub host_replies : Host → List Step → List Reply
host_replies h [] = []
host_replies h (t ∷ steps) = step_reply h t ∷ host_replies (step_after h t) steps

-- the same steps on a canvas
abbrev pub model_after : State → Step → State
model_after s (opening o) = given (open_canvas o s.cells (length s.labels)) (open_cells o s.cells (length s.labels)) s.labels
model_after s (calling c) = state_after s c

abbrev pub model_reply : State → Step → Reply
model_reply s (opening o) = reply_unless (open_refusal o (length s.cells) (length s.labels)) done
model_reply s (calling c) = reply_after s c

abbrev pub model_replies : State → List Step → List Reply
model_replies s [] = []
model_replies s (t ∷ steps) = model_reply s t ∷ model_replies (model_after s t) steps

abbrev pub callings : List Call → List Step
callings [] = []
callings (c ∷ cs) = calling c ∷ callings cs

-- ---- the ledger of the last opening, and none after a refused one; fed the arguments and the stores' lengths alone

pub data Book : Type 0 where
  shut : Book
  kept : Opening → Ledger → Book

abbrev pub book_opened : ℕ → Opening → Book
book_opened zero o = kept o (opened o)
book_opened (suc number) o = shut

abbrev pub book_after : ℕ → ℕ → Book → Step → Book
book_after cells labels b (opening o) = book_opened (open_refusal o cells labels) o
book_after cells labels shut (calling c) = shut
book_after cells labels (kept o l) (calling c) = kept o (ledger_after o l c)

abbrev pub book_reply : ℕ → ℕ → Book → Step → Reply
book_reply cells labels b (opening o) = reply_unless (open_refusal o cells labels) done
book_reply cells labels shut (calling c) = refused 5
book_reply cells labels (kept o l) (calling c) = ledger_reply o l c

abbrev pub book_replies : ℕ → ℕ → Book → List Step → List Reply
book_replies cells labels b [] = []
book_replies cells labels b (t ∷ steps) = book_reply cells labels b t ∷ book_replies cells labels (book_after cells labels b t) steps

-- ---- arguments of the widths that the exported functions take

abbrev pub IsDouble : Float → Type 0
IsDouble x = T (fits binary64 x)

pub record TypedOpening (o : Opening) : Type 0 where
  pub columns : o.columns < 2 ^ 16
  pub rows : o.rows < 2 ^ 16
  pub left : IsDouble o.bounds.left
  pub right : IsDouble o.bounds.right
  pub bottom : IsDouble o.bounds.bottom
  pub top : IsDouble o.bounds.top
  pub marker : o.marker < 2 ^ 8
  pub character : o.character < 2 ^ 32
  pub background : o.background < 2 ^ 32

abbrev pub TypedCall : Call → Type 0
TypedCall (draw shape colour) = Unit {0}
TypedCall (points pairs colour) = Unit {0}
TypedCall (dot column row colour) = Unit {0}
TypedCall layer = Unit {0}
TypedCall (marker m character) = (m < 2 ^ 8) × (character < 2 ^ 32)
TypedCall (print x y text choice) = Unit {0}
TypedCall (render area words) = Unit {0}

abbrev pub Typed : Step → Type 0
Typed (opening o) = TypedOpening o
Typed (calling c) = TypedCall c

abbrev pub AllTyped : List Step → Type 0
AllTyped [] = Unit {0}
AllTyped (t ∷ steps) = Typed t × AllTyped steps

-- For all words and stores that a host lends:
pub record Hosted : Type 0 where
  -- the replies to every list of calls, openings among them, are those on the canvas that the words mean
  pub same : (h : Host) (steps : List Step) → short_words h.words ≡ false → AllTyped steps → host_replies h steps ≡ model_replies (state_of h) steps
  -- and, without openings, `replies` of the model, for every list of words
  pub calls-only : (h : Host) (cs : List Call) → AllTyped (callings cs) → host_replies h (callings cs) ≡ replies (state_of h) cs
  -- from an accepted opening on they are the ledger's
  pub ledger : (h : Host) (o : Opening) (cs : List Call) → host_open_refusal h o ≡ 0 → TypedOpening o → AllTyped (callings cs)
      → host_replies h (opening o ∷ callings cs) ≡ done ∷ ledger_replies o (opened o) cs
  -- and so is every reply from an opening on, accepted or not, with openings anywhere in the list
  pub books : (h : Host) (o : Opening) (steps : List Step) → short_words h.words ≡ false → AllTyped (opening o ∷ steps)
      → host_replies h (opening o ∷ steps) ≡ book_replies (length h.cells) (length h.labels) shut (opening o ∷ steps)
  -- what a host sees of a call is its reply, whatever the lent number was before
  pub seen : (h : Host) (c : Call) (before : ℕ) → seen_reply h c before ≡ host_reply h c
  -- a refused call leaves every word and store as it was
  pub kept : (h : Host) (c : Call) → (refusal_on (state_of h) c ≡ 0 → ⊥) → host_after h c ≡ h
  -- a list of words that is too short meets 5 at every call, an opening too, and all stays
  pub short : (h : Host) (t : Step) → short_words h.words ≡ true → (step_reply h t ≡ refused 5) × (step_after h t ≡ h)
  -- nothing reads the words without a meaning: whatever they hold, the canvas is the one that they mean as zeros
  pub unread : (words : List ℕ) → canvas_of (cleared_words words) ≡ canvas_of words
  -- no call changes how many words there are
  pub long : (h : Host) (t : Step) → length (step_after h t).words ≡ length h.words
