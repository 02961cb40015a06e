-- End to end: what a whole file comes to is what document 01's ledger says of the calls that its bytes stand for.
use Rattle.std.specs.Prelude.{◌≡◌, List, [], ◌∷◌, ℕ, ◌+◌, ◌≤◌, length}
use Rattle.ledger.specs.Screen.{cell_on}
use Rattle.ledger.specs.declared.screen.ScreenCell.{ScreenCell}
use Rattle.ledger.specs.Calls.{Call, render}
use Rattle.ledger.specs.declared.state.Opening.{Opening}
use Rattle.ledger.specs.Ledger.{opened, Reply, refused, painted, done, shown, ledger_replies}
use Rattle.picture.specs.Opening.{opening_of}
use Rattle.picture.specs.Run.{opening_refusal, picture_of}
use Rattle.picture.specs.Meaning.{Entries, end, broken, entry, entries_from, entries_of, calls_of}
use Rattle.picture.specs.Drawn.{Drawn}
use Rattle.picture.specs.Drawn as drawn

-- a refusal with its number and the place of the record's first byte, or the screen's cells and the painted count
pub data Result : Type 0 where
  refused_at : ℕ → ℕ → Result
  shown_as : (ℕ → ScreenCell) → ℕ → Result

-- the render that ends a file, on a screen of the canvas' size
abbrev pub last_call : Opening → List ℕ → Call
last_call o screen = render (record { columns = o.columns; rows = o.rows; x = 0; y = 0 }) screen

-- what a file's records come to by the replies to its calls: the first refusal, or what the render shows
abbrev pub judged_last : ℕ → List Reply → Result
judged_last place [] = refused_at 0 place
judged_last place (refused number ∷ replies) = refused_at number place
judged_last place (painted n ∷ replies) = refused_at 0 place
judged_last place (done ∷ replies) = refused_at 0 place
judged_last place (shown cells n ∷ replies) = shown_as cells n

abbrev pub judged : Entries → List Reply → Result
judged (end place) replies = judged_last place replies
judged (broken at number) replies = refused_at number at
judged (entry at call rest) [] = refused_at 0 at
judged (entry at call rest) (refused number ∷ replies) = refused_at number at
judged (entry at call rest) (painted n ∷ replies) = judged rest replies
judged (entry at call rest) (done ∷ replies) = judged rest replies
judged (entry at call rest) (shown cells n ∷ replies) = judged rest replies

-- the code's answer with the screen after it
abbrev pub result_of : Drawn → List ℕ → Result
result_of (drawn.Refused number at) screen = refused_at number at
result_of (drawn.Shown n label_cells) screen = shown_as (cell_on screen) n

-- For every file, every limits and stores, and every screen:
pub record Faithful : Type 0 where
  -- a refused opening is the file's refusal, at 0
  pub opening : (file : List ℕ) (widest highest : ℕ) (cells labels screen : List ℕ) → (opening_refusal file widest highest (length cells) (length labels) ≡ 0 → ⊥)
      → (picture_of file widest highest cells labels screen).drawn ≡ drawn.Refused (opening_refusal file widest highest (length cells) (length labels)) 0
  -- otherwise the answer, the screen's cells and the painted count are the ledger's for the calls that the file stands for
  pub ledger : (file : List ℕ) (widest highest : ℕ) (cells labels screen : List ℕ) → opening_refusal file widest highest (length cells) (length labels) ≡ 0
      → result_of (picture_of file widest highest cells labels screen).drawn (picture_of file widest highest cells labels screen).screen
      ≡ judged (entries_of file) (ledger_replies (opening_of file) (opened (opening_of file)) (calls_of (entries_of file) (last_call (opening_of file) screen ∷ [])))
  -- the screen of a refused file is as it was
  pub kept : (file : List ℕ) (widest highest : ℕ) (cells labels screen : List ℕ) (number at : ℕ)
      → (picture_of file widest highest cells labels screen).drawn ≡ drawn.Refused number at → (picture_of file widest highest cells labels screen).screen ≡ screen
  -- a file has fewer records than bytes, so that none is left out
  pub whole : (file : List ℕ) (n at : ℕ) → length file ≤ n + at → entries_from n file at ≡ entries_from (length file) file at
