-- Numbers, the floats that are no NaN. A result rounded once is a number with the exact result's sign; so a number and a finite float have a sum that is one, and two finite floats a product.
-- Of two numbers, one that is not above the other is at most it; and only a NaN differs from itself.
use Rattle.std.proofs.Common.{◌≡◌, ℕ, ◌+◌, ◌-◌, ◌*◌, ◌^◌, ◌<◌, ◌≤◌, Bool, true, false, cond, ◌&&◌, ◌||◌, eqb, ltb, sym, refl, ◌∙◌, subst, inl, inr, mul-pos, arith, ltb-false, eq-eqb, le-leb}
use mathlib.Core.Bool.{beq}
use lib.Ieee.{Float, nan, inf, fin, binary64, up, down, unlike, round, sum, add, mul, lt, le, eq, below, level}
use lib.Ieee.Fits.{down_pos}
use Rattle.std.proofs.lemmas.Bool.{cases_lt}
use Rattle.floats.specs.Arithmetic.{◌⊕◌, ◌⊗◌}
use Rattle.floats.specs.Rounding.{IsUnits, midway, Rounded, Finite}
use Rattle.floats.specs.Domain.{in_domain}
use Rattle.floats.proofs.Cases.{true-not-false, false-not-true}
use Rattle.floats.proofs.InDomain.{at_most, at-most'}
use Rattle.floats.proofs.Rounding.Correct.{round-correct}

abbrev pub IsNumber : Float → Type 0
IsNumber nan = ⊥
IsNumber (inf s) = Unit
IsNumber (fin s m e) = Unit

pub finite_number : (x : Float) → Finite x → IsNumber x
finite_number nan h = h
finite_number (inf s) h = tt
finite_number (fin s m e) h = tt

pub domain-finite : (x : Float) → in_domain x ≡ true → Finite x
unfolding in_domain
domain-finite nan h = false-not-true h
domain-finite (inf s) h = false-not-true h
domain-finite (fin s m e) h = tt

pub domain-number : (x : Float) → in_domain x ≡ true → IsNumber x
domain-number x h = finite_number x (domain-finite x h)

-- ---- a number with this sign
abbrev pub Signed : Float → Bool → Type 0
Signed nan s = ⊥
Signed (inf t) s = t ≡ s
Signed (fin t m e) s = t ≡ s

pub signed-number : (x : Float) (s : Bool) → Signed x s → IsNumber x
signed-number nan s h = h
signed-number (inf t) s h = tt
signed-number (fin t m e) s h = tt

pub rounded-signed : (r : Float) (s : Bool) (num den : ℕ) → Rounded r s num den → Signed r s
rounded-signed r s num den R = elim (cases_lt (num * 2 ^ 1074) (midway * den)) [
  | inl h ↦ finite r _ (R.within h).2
  | inr h ↦ subst (λ (x : Float). Signed x s) (sym (R.over h)) refl
]
  where
    finite : (x : Float) (n : ℕ) → IsUnits x s n → Signed x s
    finite nan n h = h
    finite (inf t) n h = absurd h
    finite (fin t m e) n h = h.0

pub round-signed : (s : Bool) (n c : ℕ) → 0 < c → Signed (round binary64 s n c) s
round-signed s n c C = rounded-signed (round binary64 s n c) s n c (round-correct s n c C)

pub round_number : (s : Bool) (n c : ℕ) → 0 < c → IsNumber (round binary64 s n c)
round_number s n c C = signed-number (round binary64 s n c) s (round-signed s n c C)

-- ---- sums and products
sum_number : (s : Bool) (a : ℕ) (t : Bool) (b c : ℕ) → 0 < c → IsNumber (sum binary64 s a t b c)
unfolding sum
sum_number s a t b c C = go (beq s t) (ltb a b)
  where
    go : (alike less : Bool) → IsNumber (cond alike (round binary64 s (a + b) c) (cond less (round binary64 t (b - a) c) (round binary64 (s && ltb b a) (a - b) c)))
    go true less = round_number s (a + b) c C
    go false true = round_number t (b - a) c C
    go false false = round_number (s && ltb b a) (a - b) c C

pub add-number : (x y : Float) → IsNumber x → Finite y → IsNumber (x ⊕ y)
unfolding add
add-number nan y h k = absurd h
add-number (inf s) nan h k = absurd k
add-number (inf s) (inf t) h k = absurd k
add-number (inf s) (fin t n d) h k = tt
add-number (fin s m e) nan h k = absurd k
add-number (fin s m e) (inf t) h k = absurd k
add-number (fin s m e) (fin t n d) h k = sum_number s (m * up e * down d) t (n * up d * down e) (down e * down d) (mul-pos (down_pos e) (down_pos d))

pub mul-number : (x y : Float) → Finite x → Finite y → IsNumber (x ⊗ y)
unfolding mul
mul-number nan y h k = absurd h
mul-number (inf s) y h k = absurd h
mul-number (fin s m e) nan h k = absurd k
mul-number (fin s m e) (inf t) h k = absurd k
mul-number (fin s m e) (fin t n d) h k = round_number (unlike s t) (m * up e * (n * up d)) (down e * down d) (mul-pos (down_pos e) (down_pos d))

-- ---- of two numbers, one that is not above the other is at most it
both_zero : (a b : ℕ) → a + b ≤ 0 → eqb a b && eqb a 0 ≡ true
both_zero a b h = rw (eq-eqb a b (omega arith), eq-eqb a 0 (omega arith))

not-above-at-most : (s : Bool) (a : ℕ) (t : Bool) (b : ℕ) → below t b s a ≡ false → below s a t b || level s a t b ≡ true
not-above-at-most false a false b h = at_most a b ∙ le-leb a b (ltb-false b a h)
not-above-at-most false a true b h = both_zero a b (omega (arith, ltb-false 0 (b + a) h))
not-above-at-most true a false b h = go (ltb 0 (a + b)) refl
  where
    go : (some : Bool) → ltb 0 (a + b) ≡ some → some || (eqb a b && eqb a 0) ≡ true
    go true e = refl
    go false e = both_zero a b (ltb-false 0 (a + b) e)
not-above-at-most true a true b h = at-most' b a ∙ le-leb b a (ltb-false a b h)

pub not-above-le : (x y : Float) → IsNumber x → IsNumber y → lt y x ≡ false → le x y ≡ true
unfolding lt le eq
not-above-le nan y X Y h = absurd X
not-above-le (inf s) nan X Y h = absurd Y
not-above-le (inf true) (inf true) X Y h = refl
not-above-le (inf true) (inf false) X Y h = refl
not-above-le (inf false) (inf true) X Y h = true-not-false h
not-above-le (inf false) (inf false) X Y h = refl
not-above-le (inf true) (fin t n d) X Y h = refl
not-above-le (inf false) (fin t n d) X Y h = true-not-false h
not-above-le (fin s m e) nan X Y h = absurd Y
not-above-le (fin s m e) (inf true) X Y h = true-not-false h
not-above-le (fin s m e) (inf false) X Y h = refl
not-above-le (fin s m e) (fin t n d) X Y h = not-above-at-most s (m * up e * down d) t (n * up d * down e) h

-- ---- only a NaN differs from itself
pub number-equal : (x : Float) → IsNumber x → eq x x ≡ true
unfolding eq
number-equal nan h = absurd h
number-equal (inf true) h = refl
number-equal (inf false) h = refl
number-equal (fin true m e) h = rw (eq-eqb (m * up e * down e) (m * up e * down e) refl)
number-equal (fin false m e) h = rw (eq-eqb (m * up e * down e) (m * up e * down e) refl)
