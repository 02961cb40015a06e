-- Words over one another, the last word of a list, and what foldl and keep make of a list in two parts: by induction on the first part.
use mathlib.Core.Path.{◌≡◌, refl, sym}
use mathlib.Core.Bool.{Bool, true, false, cond}
use mathlib.Core.List.{List, [], ◌∷◌, ◌++◌}
use Prim.Native.Nat.{ℕ, zero, suc}
use Rattle.grids.specs.Lists.{foldl, keep, over, last_word}

pub over_zero : (x : ℕ) → over x 0 ≡ x
over_zero zero = refl
over_zero (suc x) = refl

pub over-assoc : (x y z : ℕ) → over (over x y) z ≡ over x (over y z)
over-assoc zero y z = refl
over-assoc (suc x) y z = refl

pub foldl-append : {A B : Type 0} (f : B → A → B) (b : B) (xs ys : List A) → foldl f b (xs ++ ys) ≡ foldl f (foldl f b xs) ys
foldl-append f b [] ys = refl
foldl-append f b (x ∷ xs) ys = foldl-append f (f b x) xs ys

pub keep_append : {A : Type 0} (t : A → Bool) (xs ys : List A) → keep t (xs ++ ys) ≡ keep t xs ++ keep t ys
keep_append t [] ys = refl
keep_append t (x ∷ xs) ys = go (t x) (keep_append t xs ys)
  where
    go : (b : Bool) → keep t (xs ++ ys) ≡ keep t xs ++ keep t ys → cond b (x ∷ keep t (xs ++ ys)) (keep t (xs ++ ys)) ≡ cond b (x ∷ keep t xs) (keep t xs) ++ keep t ys
    go true e = rw e
    go false e = e

pub last-append : {A : Type 0} (word : A → ℕ) (xs ys : List A) → last_word word (xs ++ ys) ≡ over (last_word word ys) (last_word word xs)
last-append word [] ys = sym (over_zero (last_word word ys))
last-append word (x ∷ xs) ys = rw (last-append word xs ys, over-assoc)
