-- A picture file drawn onto a lent screen, with its outcome as numbers: document 01, 'Picture file', and 'Render'.
use Rattle.std.specs.Prelude.{ℕ, List, ◌++◌, take, drop}
use Rattle.picture.specs.Drawn.{Drawn, Shown, Refused}
use Rattle.picture.specs.Run.{Picture, picture_of}
use Rattle.report.specs.Screen.{picture_size}

-- 'renders on a screen of that size': as many words of the lent screen as the picture's size has; a screen that has fewer meets 13
abbrev pub picture_onto : List ℕ → ℕ → ℕ → List ℕ → List ℕ → List ℕ → Picture
picture_onto file widest highest cells labels screen = picture_of file widest highest cells labels (take (picture_size file widest highest) screen)

-- the lent screen after it: the words past the picture's stay as they are
abbrev pub screen_after : List ℕ → ℕ → ℕ → List ℕ → List ℕ → List ℕ → List ℕ
screen_after file widest highest cells labels screen =
    (picture_onto file widest highest cells labels screen).screen ++ drop (picture_size file widest highest) screen

-- 'Panics become refusals': 0 for a picture that is drawn, else the refusal's number
abbrev pub draw_status : Drawn → ℕ
draw_status (Shown painted label_cells) = 0
draw_status (Refused number place) = number

-- the painted count and the label cells of a picture that is drawn, and the place of a refusal, 'the place of the record's first byte'; what the outcome does not have stays as it was
abbrev pub painted_after : Drawn → ℕ → ℕ
painted_after (Shown painted label_cells) before = painted
painted_after (Refused number place) before = before

abbrev pub label_cells_after : Drawn → ℕ → ℕ
label_cells_after (Shown painted label_cells) before = label_cells
label_cells_after (Refused number place) before = before

abbrev pub place_after : Drawn → ℕ → ℕ
place_after (Shown painted label_cells) before = before
place_after (Refused number place) before = place

-- no refusal has the number 0
abbrev pub IsShown : Drawn → Type 0
IsShown (Shown painted label_cells) = Unit {0}
IsShown (Refused number place) = ⊥
