-- What the contracts of the calls say: the answer, and every lent list and number after the call, by the canvas that the words mean (crate words).
use Rattle.std.specs.Prelude.{◌≡◌, cond, List, ℕ, eqb, Float, Option, Some, None}
use Rattle.ledger.specs.Calls.{Call, render}
use Rattle.ledger.specs.declared.state.Opening.{Opening}
use Rattle.ledger.specs.Model.{refusal_on}
use Rattle.ledger.specs.Outcomes.{answer_on, screen_on}
use Rattle.ledger.specs.declared.screen.Area.{Area}
use Rattle.words.specs.Words.{painted_after, label_cells_after}
use Rattle.words.specs.Hosted.{Host, state_of, host_after, host_open_refusal, host_opened}

-- what a lent word means, in canvas, stores and screen, has a number, which every change of it raises
abbrev pub layout_number : ℕ
layout_number = 1

-- 0 or the refusal's number, and the words
pub record Answered (h : Host) (c : Call) (r : ℕ) (words : List ℕ) : Type 0 where
  pub status : r ≡ refusal_on (state_of h) c
  pub words_left : words ≡ (host_after h c).words

-- with the cells; the labels are lent to be read, and stay
pub record Marked (h : Host) (c : Call) (r : ℕ) (words cells : List ℕ) : Type 0 where
  pub answered : Answered h c r words
  pub cells_left : cells ≡ (host_after h c).cells
  pub labels_left : h.labels ≡ (host_after h c).labels

-- of a draw or a dot, with the painted number
pub record Drawn (h : Host) (c : Call) (before : ℕ) (r : ℕ) (words cells : List ℕ) (painted : ℕ) : Type 0 where
  pub marked : Marked h c r words cells
  pub painted_left : painted ≡ painted_after before (answer_on (state_of h) c)

-- of a print, with the labels; the cells stay
pub record Printed (h : Host) (c : Call) (r : ℕ) (words labels : List ℕ) : Type 0 where
  pub answered : Answered h c r words
  pub cells_left : h.cells ≡ (host_after h c).cells
  pub labels_left : labels ≡ (host_after h c).labels

-- of a render, with the screen and both numbers
pub record Rendered (h : Host) (area : Area) (screen : List ℕ) (before cells_before : ℕ) (r : ℕ) (words cells screen_after : List ℕ) (painted label_cells : ℕ)
    : Type 0 where
  pub drawn : Drawn h (render area screen) before r words cells painted
  pub screen_left : screen_after ≡ screen_on (state_of h) area screen
  pub label_cells_left : label_cells ≡ label_cells_after cells_before (answer_on (state_of h) (render area screen))

-- of an opening, by its arguments
abbrev pub opening_with : ℕ → ℕ → Float → Float → Float → Float → ℕ → ℕ → ℕ → Opening
opening_with columns rows left right bottom top marker character background = record {
  columns = columns;
  rows = rows;
  bounds = record { left = left; right = right; bottom = bottom; top = top };
  marker = marker;
  character = character;
  background = background;
}

pub record Opened (h : Host) (o : Opening) (r : ℕ) (words cells : List ℕ) : Type 0 where
  pub status : r ≡ host_open_refusal h o
  pub words_left : words ≡ (host_opened h o).words
  pub cells_left : cells ≡ (host_opened h o).cells
  pub labels_left : h.labels ≡ (host_opened h o).labels

-- 'colour or none': the number FFFFFFFF, which is no colour, means none
abbrev pub no_colour : ℕ
no_colour = 4294967295

abbrev pub choice_of : ℕ → Option ℕ
choice_of colour = cond (eqb colour no_colour) None (Some colour)
