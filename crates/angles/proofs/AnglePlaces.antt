-- What stands at each place of the circle's table: twice an angle's degrees has its cosine, and the next place its sine.
use mathlib.Core.Path.{◌≡◌, sym, ap, ◌∙◌}
use Prim.Native.Nat.{ℕ, zero, suc, ◌+◌, ◌*◌, ◌<◌}
use native.Mathlib.Nat.{add-zero, zero-add, add-suc, suc-add, le_of_suc-le-suc, not-suc-le-zero}
use native.Mathlib.Numerals.{add-one}
use native.Mathlib.Omega.{arith}
use lib.Ieee.{Float}
use lib.ListN.{get_or}
use Rattle.angles.specs.Angles.{cos_at, sin_at, angles_from, angle_table}

pub further : (k j : ℕ) → suc k + j ≡ k + suc j
further k j = suc-add k j ∙ sym (add-suc k j)

twice : (j : ℕ) → suc j * 2 ≡ suc (suc (j * 2))
twice j = omega arith

cos-from : (k n j : ℕ) (d : Float) → j < n → get_or (angles_from k n) (j * 2) d ≡ cos_at (k + j)
cos-from k zero j d h = absurd (not-suc-le-zero h)
cos-from k (suc n) zero d h = ap cos_at (sym (add-zero k))
cos-from k (suc n) (suc j) d h = ap (λ (i : ℕ). get_or (angles_from k (suc n)) i d) (twice j) ∙ cos-from (suc k) n j d (le_of_suc-le-suc h) ∙ ap cos_at (further k j)

sin-from : (k n j : ℕ) (d : Float) → j < n → get_or (angles_from k n) (suc (j * 2)) d ≡ sin_at (k + j)
sin-from k zero j d h = absurd (not-suc-le-zero h)
sin-from k (suc n) zero d h = ap sin_at (sym (add-zero k))
sin-from k (suc n) (suc j) d h = ap (λ (i : ℕ). get_or (angles_from k (suc n)) (suc i) d) (twice j) ∙ sin-from (suc k) n j d (le_of_suc-le-suc h) ∙ ap sin_at (further k j)

pub angle-cos : (k : ℕ) (d : Float) → k < 360 → get_or angle_table (k * 2) d ≡ cos_at k
unfolding angle_table
angle-cos k d h = cos-from 0 360 k d h ∙ ap cos_at (zero-add k)

pub angle-sin : (k : ℕ) (d : Float) → k < 360 → get_or angle_table (k * 2 + 1) d ≡ sin_at k
unfolding angle_table
angle-sin k d h = ap (λ (i : ℕ). get_or angle_table i d) (add-one (k * 2)) ∙ sin-from 0 360 k d h ∙ ap sin_at (zero-add k)
