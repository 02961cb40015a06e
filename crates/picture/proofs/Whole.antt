-- A whole file: the opening's refusal, a record's, or the render that ends it.
use mathlib.Core.Path.{◌≡◌, refl, sym, ◌∙◌, ap}
use mathlib.Core.List.{List}
use Prim.Native.Nat.{ℕ, zero, suc}
use lib.ListN.{length}
use Rattle.ledger.specs.Calls.{render}
use Rattle.ledger.specs.Ledger.{unless}
use Rattle.ledger.specs.Model.{State, zero_canvas}
use Rattle.ledger.specs.Promise.{open_state}
use Rattle.ledger.specs.Outcomes.{given}
use Rattle.picture.specs.Opening.{opening_of}
use Rattle.form.specs.Forms.{opening_end}
use Rattle.picture.specs.Run.{form_or_size, opening_refusal, opened_state, opening_taken, Ended, records_from, area_of, finished, ended, picture_of}
use Rattle.records.specs.Step as step
use Rattle.records.specs.Steps.{Taken}
use Rattle.picture.specs.Stop as stop
use Rattle.picture.specs.Drawn.{Drawn}
use Rattle.picture.specs.Drawn as drawn
use Rattle.records.proofs.Kept.{same-labels}
use Rattle.records.proofs.RecordSteps.{next-accepted, refused-number}

-- the answer, the stores and the screen that the contract asks for
abbrev pub Gives : List ℕ → ℕ → ℕ → List ℕ → List ℕ → List ℕ → Drawn → List ℕ → List ℕ → List ℕ → Type 0
Gives file widest highest cells labels screen answer cells_after labels_after screen_after =
    (answer ≡ (picture_of file widest highest cells labels screen).drawn)
    × ((cells_after ≡ (picture_of file widest highest cells labels screen).state.cells)
    × ((labels_after ≡ (picture_of file widest highest cells labels screen).state.labels)
    × (screen_after ≡ (picture_of file widest highest cells labels screen).screen)))

-- an opening leaves the labels alone
opened-labels : (file : List ℕ) (widest highest : ℕ) (cells labels : List ℕ) → labels ≡ (opened_state file widest highest cells labels).labels
unfolding opened_state
opened-labels file widest highest cells labels = go (form_or_size file widest highest)
  where
    go : (n : ℕ) → labels ≡ (unless n (given zero_canvas cells labels) (open_state (opening_of file) cells labels)).labels
    go zero = refl
    go (suc n) = refl

ended-refused : (file : List ℕ) (widest highest : ℕ) (cells labels : List ℕ) (n : ℕ) → n ≡ opening_refusal file widest highest (length cells) (length labels) → (n ≡ 0 → ⊥)
    → ended file widest highest cells labels ≡ record { state = opened_state file widest highest cells labels; stop = stop.Refused n 0 }
unfolding ended
ended-refused file widest highest cells labels zero e some = absurd (some refl)
ended-refused file widest highest cells labels (suc n) e some = rw (← e)

ended-opened : (file : List ℕ) (widest highest : ℕ) (cells labels : List ℕ) → opening_refusal file widest highest (length cells) (length labels) ≡ 0
    → ended file widest highest cells labels ≡ records_from file (opening_end file) (opened_state file widest highest cells labels)
unfolding ended
ended-opened file widest highest cells labels e = rw (e)

-- ---- by where the records end

pub gives-stopped : (file : List ℕ) (widest highest : ℕ) (cells labels screen : List ℕ) (x : Ended) (number at : ℕ) → ended file widest highest cells labels ≡ x → x.stop ≡ stop.Refused number at
    → Gives file widest highest cells labels screen (drawn.Refused number at) x.state.cells x.state.labels screen
unfolding picture_of
gives-stopped file widest highest cells labels screen x number at e s = rw (e, s) (refl, (refl, (refl, refl)))

pub gives-finished : (file : List ℕ) (widest highest : ℕ) (cells labels screen : List ℕ) (x : Ended) → ended file widest highest cells labels ≡ x → x.stop ≡ stop.End
    → Gives file widest highest cells labels screen (finished x.state (length file) screen).drawn (finished x.state (length file) screen).state.cells x.state.labels
    (finished x.state (length file) screen).screen
unfolding picture_of
gives-finished file widest highest cells labels screen x e s = rw (e, s) (refl, (refl, (same-labels x.state (render (area_of x.state.canvas) screen) refl, refl)))

-- ---- by the opening's step

pub opening-stopped : (file : List ℕ) (widest highest : ℕ) (cells labels screen after : List ℕ) (taken : Taken) (number : ℕ) → taken ≡ opening_taken file widest highest cells labels
    → after ≡ (opened_state file widest highest cells labels).cells → taken.step ≡ step.Refused number
    → Gives file widest highest cells labels screen (drawn.Refused number 0) after labels screen
opening-stopped file widest highest cells labels screen after taken number made c s =
    let n = refused-number (opening_refusal file widest highest (length cells) (length labels)) (opening_end file) number (sym s ∙ ap (λ (t : Taken). t.step) made) in
    let e = ended-refused file widest highest cells labels number n.0 (λ z. n.1 (sym n.0 ∙ z)) in
    let g = gives-stopped file widest highest cells labels screen _ number 0 e refl in
    (g.0, (c ∙ g.1.0, (opened-labels file widest highest cells labels ∙ g.1.1.0, g.1.1.1)))

pub opening-ran : (file : List ℕ) (widest highest : ℕ) (cells labels after : List ℕ) (taken : Taken) (start : ℕ) → taken ≡ opening_taken file widest highest cells labels
    → after ≡ (opened_state file widest highest cells labels).cells → taken.step ≡ step.Next start
    → ended file widest highest cells labels ≡ records_from file start (given taken.canvas after labels)
opening-ran file widest highest cells labels after taken start made c s =
    let n = next-accepted (opening_refusal file widest highest (length cells) (length labels)) (opening_end file) start (sym s ∙ ap (λ (t : Taken). t.step) made) in
    let l = opened-labels file widest highest cells labels in
    let o = opened_state file widest highest cells labels in
    let same : given taken.canvas after labels ≡ o = rw (made, c) (ap (λ (x : List ℕ). given o.canvas o.cells x) l) in
    ended-opened file widest highest cells labels n.0 ∙ rw (n.1, same)

pub gives-rendered : (file : List ℕ) (widest highest : ℕ) (cells labels screen : List ℕ) (x : Ended) (s : State) (answer : Drawn) (cells_after screen_after : List ℕ)
    → ended file widest highest cells labels ≡ x → s ≡ x.state → x.stop ≡ stop.End
    → answer ≡ (finished s (length file) screen).drawn
    → cells_after ≡ (finished s (length file) screen).state.cells
    → screen_after ≡ (finished s (length file) screen).screen
    → Gives file widest highest cells labels screen answer cells_after s.labels screen_after
gives-rendered file widest highest cells labels screen x s answer cells_after screen_after e same end drawn-is cells_are screen-is =
    let g = gives-finished file widest highest cells labels screen x e end in (
      drawn-is ∙ (ap (λ (y : State). (finished y (length file) screen).drawn) same ∙ g.0),
      (
        cells_are ∙ (ap (λ (y : State). (finished y (length file) screen).state.cells) same ∙ g.1.0),
        (ap (λ (y : State). y.labels) same ∙ g.1.1.0, screen-is ∙ (ap (λ (y : State). (finished y (length file) screen).screen) same ∙ g.1.1.1)),
      ),
    )
