-- What an accepted print or render has room for, as facts of the canvas, its stores and the screen.
use mathlib.Core.Path.{◌≡◌}
use mathlib.Core.Bool.{false}
use mathlib.Core.List.{List}
use Prim.Native.Nat.{ℕ, ◌+◌, ◌*◌, ◌≤◌, ◌<◌}
use native.Mathlib.Omega.{arith}
use lib.Ieee.{Float}
use lib.ListN.{length}
use Rattle.std.specs.Prelude.{Option}
use Rattle.view.specs.Limits.{max_text, max_labels}
use Rattle.ledger.specs.Calls.{print, render, bad_point, bad_choice, passes_edge, bad_screen, refusal}
use Rattle.ledger.specs.Model.{opening_of}
use Rattle.ledger.specs.Outcomes.{refusal_by}
use Rattle.ledger.specs.declared.screen.Area.{Area}
use Rattle.ledger.specs.declared.state.Canvas.{Canvas}
use Rattle.grids.proofs.Cases.{cond-none}
use Rattle.ledger.proofs.Refusals.{print-fits}
use Rattle.ledger.proofs.CallSteps.{accepted-fine, accepted-own}

module _ (c : Canvas) (cells labels : List ℕ) where
  pub print_room : (x y : Float) (text : List ℕ) (choice : Option ℕ) → 0 ≡ refusal_by c (length cells) (length labels) (print x y text choice)
      → (bad_choice choice ≡ false) × (length text ≤ max_text) × (c.labels < max_labels) × (c.labels * 44 + 44 ≤ length labels)
  unfolding refusal
  print_room x y text choice e =
      let own = accepted-own c (length cells) (length labels) (print x y text choice) e in
      let good = (cond-none (bad_choice choice) 2 _ (cond-none (bad_point x y) 1 _ own).1).0 in
      let fits = print-fits (opening_of c) c.draws c.labels c.marker x y text choice own in
      let store = (accepted-fine c (length cells) (length labels) (print x y text choice) e).label-room in
      (good, fits.0, fits.1, omega (arith, store, fits.1))

  pub render_room : (a : Area) (words : List ℕ) → 0 ≡ refusal_by c (length cells) (length labels) (render a words)
      → (passes_edge c.columns c.rows a ≡ false) × (bad_screen a words ≡ false) × (c.labels ≤ max_labels) × (max_labels * 44 ≤ length labels)
  unfolding refusal
  render_room a words e =
      let inside = cond-none (passes_edge c.columns c.rows a) 11 _ (accepted-own c (length cells) (length labels) (render a words) e) in
      let fine = accepted-fine c (length cells) (length labels) (render a words) e in
      (inside.0, (cond-none (bad_screen a words) 12 _ inside.1).0, fine.labels-held, fine.label-room)
