-- What the calls on a picture file give for every file and every store: the answer, the canvas and the lent lists after them.
use Rattle.std.specs.Prelude.{ℕ, zero, suc, Bool, cond, ◌||◌, List, [], ◌∷◌, ltb, length}
use Rattle.grids.specs.Lists.{first}
use Rattle.ledger.specs.Calls.{render, open_refusal}
use Rattle.ledger.specs.declared.state.Opening.{Opening}
use Rattle.ledger.specs.Ledger.{unless}
use Rattle.ledger.specs.Model.{State, or_refusal, state_after, zero_canvas}
use Rattle.ledger.specs.Promise.{open_state}
use Rattle.ledger.specs.Outcomes.{given, answer_on, screen_on}
use Rattle.ledger.specs.declared.screen.Area.{Area}
use Rattle.ledger.specs.declared.state.Canvas.{Canvas}
use Rattle.ledger.specs.Answer.{Answer}
use Rattle.ledger.specs.Answer as answer
use Rattle.form.specs.Forms.{opening_end, opening_form, record_end}
use Rattle.records.specs.Step.{step_unless}
use Rattle.records.specs.Steps.{Taken, refusal_at, record_state}
use Rattle.picture.specs.Opening.{opening_of}
use Rattle.picture.specs.Stop.{Stop}
use Rattle.picture.specs.Stop as stop
use Rattle.picture.specs.Drawn.{Drawn}
use Rattle.picture.specs.Drawn as drawn

-- ---- the opening: the form of its bytes, a size above the limits that the caller gives ('refuses more than 80 columns or 24 rows with 1'), then the call's own

abbrev pub too_large : Opening → ℕ → ℕ → Bool
too_large o widest highest = ltb widest o.columns || ltb highest o.rows

unfoldable pub form_or_size : List ℕ → ℕ → ℕ → ℕ
form_or_size file widest highest = or_refusal (opening_form file) (first ((too_large (opening_of file) widest highest, 1) ∷ []))

unfoldable pub opening_refusal : List ℕ → ℕ → ℕ → ℕ → ℕ → ℕ
opening_refusal file widest highest cells labels = or_refusal (form_or_size file widest highest) (open_refusal (opening_of file) cells labels)

unfoldable pub opened_state : List ℕ → ℕ → ℕ → List ℕ → List ℕ → State
opened_state file widest highest cells labels = unless (form_or_size file widest highest) (given zero_canvas cells labels) (open_state (opening_of file) cells labels)

abbrev pub opening_taken : List ℕ → ℕ → ℕ → List ℕ → List ℕ → Taken
opening_taken file widest highest cells labels = record {
  canvas = (opened_state file widest highest cells labels).canvas;
  step = step_unless (opening_refusal file widest highest (length cells) (length labels)) (opening_end file);
}

-- ---- records one after the other, to the end of the file or the first that is refused; 'records already accepted stand'

pub record Ended : Type 0 where
  pub state : State
  pub stop : Stop

-- at most n records
unfoldable pub run_from : ℕ → List ℕ → ℕ → State → Ended
run_from zero file at s = record { state = s; stop = stop.End }
run_from (suc n) file at s =
    cond (ltb at (length file))
    (unless (refusal_at s file at) (record { state = s; stop = stop.Refused (refusal_at s file at) at }) (run_from n file (record_end file at) (record_state s file at)))
    (record { state = s; stop = stop.End })

-- a file has fewer records than bytes
abbrev pub records_from : List ℕ → ℕ → State → Ended
records_from file at s = run_from (length file) file at s

-- the canvas after the records, and where they ended
pub record Ran : Type 0 where
  pub canvas : Canvas
  pub stop : Stop

abbrev pub ran_by : Ended → Ran
ran_by e = record { canvas = e.state.canvas; stop = e.stop }

-- ---- a whole file: opening, records, and a render on a screen of the canvas' size

pub record Picture : Type 0 where
  pub state : State
  pub drawn : Drawn
  pub screen : List ℕ

abbrev pub area_of : Canvas → Area
area_of c = record { columns = c.columns; rows = c.rows; x = 0; y = 0 }

-- a render's answer; one that is refused has the file's end as its place
abbrev pub drawn_of : Answer → ℕ → Drawn
drawn_of (answer.Refused number) place = drawn.Refused number place
drawn_of (answer.Painted n) place = drawn.Refused 0 place
drawn_of answer.Done place = drawn.Refused 0 place
drawn_of (answer.Rendered painted label_cells) place = drawn.Shown painted label_cells

abbrev pub finished : State → ℕ → List ℕ → Picture
finished s place screen = record {
  state = state_after s (render (area_of s.canvas) screen);
  drawn = drawn_of (answer_on s (render (area_of s.canvas) screen)) place;
  screen = screen_on s (area_of s.canvas) screen;
}

abbrev pub picture_by : Stop → State → ℕ → List ℕ → Picture
picture_by (stop.Refused number at) s place screen = record { state = s; drawn = drawn.Refused number at; screen = screen }
picture_by stop.End s place screen = finished s place screen

-- 'B the place of the record's first byte, 0 for the opening and for 17'
unfoldable pub ended : List ℕ → ℕ → ℕ → List ℕ → List ℕ → Ended
ended file widest highest cells labels =
    unless (opening_refusal file widest highest (length cells) (length labels))
    (record { state = opened_state file widest highest cells labels; stop = stop.Refused (opening_refusal file widest highest (length cells) (length labels)) 0 })
    (records_from file (opening_end file) (opened_state file widest highest cells labels))

unfoldable pub picture_of : List ℕ → ℕ → ℕ → List ℕ → List ℕ → List ℕ → Picture
picture_of file widest highest cells labels screen =
    picture_by (ended file widest highest cells labels).stop (ended file widest highest cells labels).state (length file) screen
