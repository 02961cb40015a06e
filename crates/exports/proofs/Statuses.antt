-- 0 and 255 are the numbers of no refusal.
use Rattle.std.specs.Prelude.{ℕ, ◌≡◌, Bool, true, false, [], ◌∷◌, Float, Option, Some, None}
use Rattle.std.proofs.Common.{arith, sym, ◌∙◌}
use Rattle.grids.specs.Lists.{first}
use Rattle.grids.specs.Markers.{marker_of}
use Rattle.view.specs.Point.{point_of, view_of}
use Rattle.ledger.specs.Calls.{bad_point}
use Rattle.ledger.specs.Model.{bad_canvas}
use Rattle.ledger.specs.PointCall.{point_refusal, pointed_to, pointed_unless, pointed_on}
use Rattle.ledger.specs.declared.state.Canvas.{Canvas}
use Rattle.exports.specs.GetPoint.{point_status, IsDot, IsNone}

module _ (c : Canvas) (x y : Float) where
  pub zero-dot : point_status (pointed_on c x y) ≡ 0 → IsDot (pointed_on c x y)
  unfolding pointed_on point_refusal
  zero-dot = go (bad_canvas c) (bad_point x y) (point_of (view_of c.bounds c.columns c.rows (marker_of c.marker)) x y)
    where
      go : (bad outside : Bool) (found : Option (ℕ × ℕ)) → point_status (pointed_unless (first ((bad, 5) ∷ (outside, 2) ∷ [])) (pointed_to found)) ≡ 0
          → IsDot (pointed_unless (first ((bad, 5) ∷ (outside, 2) ∷ [])) (pointed_to found))
      go true outside found e = absurd (omega arith)
      go false true found e = absurd (omega arith)
      go false false (Some (column, row)) e = tt
      go false false None e = absurd (omega arith)

  pub last_none : point_status (pointed_on c x y) ≡ 255 → IsNone (pointed_on c x y)
  unfolding pointed_on point_refusal
  last_none = go (bad_canvas c) (bad_point x y) (point_of (view_of c.bounds c.columns c.rows (marker_of c.marker)) x y)
    where
      go : (bad outside : Bool) (found : Option (ℕ × ℕ)) → point_status (pointed_unless (first ((bad, 5) ∷ (outside, 2) ∷ [])) (pointed_to found)) ≡ 255
          → IsNone (pointed_unless (first ((bad, 5) ∷ (outside, 2) ∷ [])) (pointed_to found))
      go true outside found e = absurd (omega arith)
      go false true found e = absurd (omega arith)
      go false false (Some (column, row)) e = absurd (omega arith)
      go false false None e = tt

  pub told : {r : ℕ} → r ≡ point_status (pointed_on c x y) → (r ≡ 0 → IsDot (pointed_on c x y)) × (r ≡ 255 → IsNone (pointed_on c x y))
  told is = (λ e. zero-dot (sym is ∙ e), λ e. last_none (sym is ∙ e))
