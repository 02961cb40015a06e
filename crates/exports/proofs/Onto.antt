-- A picture drawn onto the part of a screen that is lent; one that is refused leaves the whole screen.
use Prim.Native.Nat.{ℕ, min}
use mathlib.Core.Path.{◌≡◌, ap, ◌∙◌}
use mathlib.Core.List.{List, ◌++◌}
use lib.ListN.{length, take, drop, take-append-drop}
use Rattle.std.proofs.lemmas.List.{take_min, drop_min}
use Rattle.picture.specs.Drawn.{Drawn, Refused}
use Rattle.picture.specs.Run.{Picture, picture_of}
use Rattle.picture.proofs.Faithful.{faithful}
use Rattle.report.specs.Screen.{picture_size}
use Rattle.exports.specs.Draw.{picture_onto, screen_after}

module _ (file cells labels screen : List ℕ) (widest highest : ℕ) {n size : ℕ} (least : n ≡ min size (length screen)) (is : size ≡ picture_size file widest highest) where
  on-part : picture_of file widest highest cells labels (take n screen) ≡ picture_onto file widest highest cells labels screen
  on-part = rw (least, is, take_min (picture_size file widest highest) screen)

  rest : drop n screen ≡ drop (picture_size file widest highest) screen
  rest = rw (least, is) (drop_min (picture_size file widest highest) screen)

  pub drawn-part : {drawn : Drawn} → drawn ≡ (picture_of file widest highest cells labels (take n screen)).drawn → drawn ≡ (picture_onto file widest highest cells labels screen).drawn
  drawn-part e = e ∙ ap (λ (p : Picture). p.drawn) on-part

  pub screen-part : {screen' : List ℕ} → screen' ≡ (picture_of file widest highest cells labels (take n screen)).screen → screen' ++ drop n screen ≡ screen_after file widest highest cells labels screen
  screen-part e =
      ap (λ (l : List ℕ). l ++ drop n screen) (e ∙ ap (λ (p : Picture). p.screen) on-part)
      ∙ ap (λ (l : List ℕ). (picture_onto file widest highest cells labels screen).screen ++ l) rest

pub refused-kept : (file cells labels screen : List ℕ) (widest highest number at : ℕ) → (picture_onto file widest highest cells labels screen).drawn ≡ Refused number at
    → screen_after file widest highest cells labels screen ≡ screen
refused-kept file cells labels screen widest highest number at e =
    ap (λ (l : List ℕ). l ++ drop (picture_size file widest highest) screen)
    (faithful.kept file widest highest cells labels (take (picture_size file widest highest) screen) number at e)
    ∙ take-append-drop (picture_size file widest highest) screen
