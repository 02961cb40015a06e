-- The two comparisons with 2 ^ 40 and its opposite are the test of the domain.
use Rattle.std.proofs.Common.{◌≡◌, ℕ, ◌+◌, ◌*◌, ◌<◌, Bool, true, false, ◌&&◌, ◌||◌, eqb, ltb, leb, pos, sym, refl, ap, ◌∙◌, inl, inr, le_of_eq, le_of_lt, eq-or-lt_of_le, mul-one, arith, le-ltb, lt-ltb, eq-eqb, ne_eqb, le-leb}
use lib.Ieee.{Float, nan, inf, fin, up, down, le}
use lib.Ieee.Fits.{down_pos}
use borrow.Author.Tests.{lt-leb}
use Rattle.std.proofs.lemmas.Bool.{cases_lt, or_left}
use Rattle.floats.specs.Domain.{in_domain}

apart : (x y : ℕ) → y < x → x ≡ y → ⊥
apart x y h e = omega arith

-- below or equal, written with the equation either way round
pub at_most : (a b : ℕ) → ltb a b || (eqb a b && true) ≡ leb a b
at_most a b = elim (cases_lt b a) [
  | inl h ↦ simp (le-ltb a b (le_of_lt h), ne_eqb a b (λ e. apart a b h e), lt-leb a b h)
  | inr h ↦ elim (eq-or-lt_of_le h) [ inl e ↦ simp (le-ltb a b (le_of_eq (sym e)), eq-eqb a b e, le-leb a b h) | inr l ↦ simp (lt-ltb a b l, le-leb a b h) ]
]

pub at-most' : (a b : ℕ) → ltb a b || (eqb b a && true) ≡ leb a b
at-most' a b = elim (cases_lt b a) [
  | inl h ↦ simp (le-ltb a b (le_of_lt h), ne_eqb b a (λ e. apart a b h (sym e)), lt-leb a b h)
  | inr h ↦ elim (eq-or-lt_of_le h) [ inl e ↦ simp (le-ltb a b (le_of_eq (sym e)), eq-eqb b a (sym e), le-leb a b h) | inr l ↦ simp (lt-ltb a b l, le-leb a b h) ]
]

pub domain-test : (x : Float) → le (fin true 1 (pos 40)) x && le x (fin false 1 (pos 40)) ≡ in_domain x
unfolding le in_domain
domain-test nan = refl
domain-test (inf true) = refl
domain-test (inf false) = refl
domain-test (fin true m e) =
    ap (λ (t : Bool). le (fin true 1 (pos 40)) (fin true m e) && t) (or_left _ _ (lt-ltb 0 (m * up e * 1 + 1099511627776 * down e) (right-above (m * up e * 1) (down e) (down_pos e))))
    ∙ and-true (le (fin true 1 (pos 40)) (fin true m e))
    ∙ at-most' (m * up e * 1) (1099511627776 * down e)
    ∙ ap (λ (v : ℕ). leb v (1099511627776 * down e)) (mul-one (m * up e))
  where
    right-above : (v d : ℕ) → 0 < d → 0 < v + 1099511627776 * d
    right-above v d D = omega arith

    and-true : (b : Bool) → b && true ≡ b
    and-true true = refl
    and-true false = refl
domain-test (fin false m e) =
    ap (λ (t : Bool). t && le (fin false m e) (fin false 1 (pos 40))) (or_left _ _ (lt-ltb 0 (1099511627776 * down e + m * up e * 1) (left-above (m * up e * 1) (down e) (down_pos e))))
    ∙ at_most (m * up e * 1) (1099511627776 * down e)
    ∙ ap (λ (v : ℕ). leb v (1099511627776 * down e)) (mul-one (m * up e))
  where
    left-above : (v d : ℕ) → 0 < d → 0 < 1099511627776 * d + v
    left-above v d D = omega arith
