-- A test that is true and false at once gives anything.
use Rattle.std.proofs.Common.{◌≡◌, true, false, T, sym, subst}

pub true-not-false : {X : Type 0} → true ≡ false → X
true-not-false e = absurd (subst T e tt)

pub false-not-true : {X : Type 0} → false ≡ true → X
false-not-true e = absurd (subst T (sym e) tt)
