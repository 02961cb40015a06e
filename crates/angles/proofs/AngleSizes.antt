-- Each cosine and sine of the circle's table is at most 1 in size, by computation.
use mathlib.Core.Path.{◌≡◌, refl, sym, subst}
use mathlib.Core.List.{List, [], ◌∷◌}
use mathlib.Core.Bool.{Bool, true, false, ◌&&◌}
use Prim.Native.Nat.{ℕ, zero, suc, ◌+◌, ◌*◌, ◌<◌}
use native.Mathlib.Nat.{add-zero, zero-add, le_of_suc-le-suc, not-suc-le-zero}
use lib.Dec.{leb}
use lib.Ieee.{Float, nan, inf, fin, up, down, of_bits, add, sub, mul, div, lt, neg, of_int}
use Rattle.std.proofs.lemmas.Bool.{and_parts}
use Rattle.floats.specs.Truncation.{as_signed}
use Rattle.floats.specs.Methods.{abs_of}
use Rattle.floats.specs.Polyfills.{floor_of, sin_of, cos_of}
use Rattle.angles.specs.Angles.{cos_at, sin_at, angles_from, angle_table}
use Rattle.angles.proofs.AnglePlaces.{further}

-- finite, and at most 1 in size
abbrev pub at_most_one : Float → Bool
at_most_one nan = false
at_most_one (inf s) = false
at_most_one (fin s m e) = leb (m * up e) (down e)

abbrev all_at_most_one : List Float → Bool
all_at_most_one [] = true
all_at_most_one (x ∷ l) = at_most_one x && all_at_most_one l

table-sized : all_at_most_one angle_table ≡ true
unfolding of_bits add sub mul div lt neg of_int as_signed abs_of floor_of sin_of cos_of angle_table
table-sized = refl

-- the sizes of an angle's cosine and sine
record Sized (k : ℕ) : Type 0 where
  cos : at_most_one (cos_at k) ≡ true
  sin : at_most_one (sin_at k) ≡ true

sized-from : (k n j : ℕ) → j < n → all_at_most_one (angles_from k n) ≡ true → Sized (k + j)
sized-from k zero j h a = absurd (not-suc-le-zero h)
sized-from k (suc n) zero h a =
    subst Sized (sym (add-zero k))
    (record { cos = (and_parts (at_most_one (cos_at k)) _ a).0; sin = (and_parts (at_most_one (sin_at k)) _ (and_parts (at_most_one (cos_at k)) _ a).1).0 })
sized-from k (suc n) (suc j) h a = subst Sized (further k j) (sized-from (suc k) n j (le_of_suc-le-suc h) (and_parts (at_most_one (sin_at k)) _ (and_parts (at_most_one (cos_at k)) _ a).1).1)

sized : (k : ℕ) → k < 360 → Sized k
unfolding angle_table
sized k h = subst Sized (zero-add k) (sized-from 0 360 k h table-sized)

pub cos-sized : (k : ℕ) → k < 360 → at_most_one (cos_at k) ≡ true
cos-sized k h = (sized k h).cos

pub sin-sized : (k : ℕ) → k < 360 → at_most_one (sin_at k) ≡ true
sin-sized k h = (sized k h).sin
