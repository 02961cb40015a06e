-- Each operation hands its exact result to the kit's `round`.
use Rattle.std.proofs.Common.{◌≡◌, ℕ, zero, suc, ◌+◌, ◌-◌, ◌*◌, ◌<◌, ◌≤◌, Bool, true, false, cond, not, ◌&&◌, eqb, ltb, ℤ, pos, negsuc, refl, subst, zero-lt-suc, mul-pos, arith, lit<, ltb-false, ltb-true}
use lib.Ieee.{Float, nan, inf, fin, binary64, unlike, up, down, round, sum, add, sub, mul, div, of_int}
use lib.Ieee.Fits.{down_pos, up_pos}
use borrow.Author.Tests.{eqb-false}
use Rattle.floats.specs.Arithmetic.{◌⊕◌, ◌⊖◌, ◌⊗◌, ◌⊘◌}
use Rattle.floats.specs.Rounding.{Rounded, invalid, infinite, fraction, Rounds, signed_sum, exact_sum, exact_difference, exact_product, exact_quotient, exact_integer}
use Rattle.floats.proofs.Rounding.Correct.{round-correct}

sum-rounds : (s : Bool) (a : ℕ) (t : Bool) (b den : ℕ) → 0 < den → Rounds (sum binary64 s a t b den) (signed_sum s a t b den)
unfolding sum
sum-rounds true a true b den D = round-correct true (a + b) den D
sum-rounds false a false b den D = round-correct false (a + b) den D
sum-rounds false a true b den D = go (ltb a b)
  where
    go : (x : Bool) → Rounds (cond x (round binary64 true (b - a) den) (round binary64 false (a - b) den)) (cond x (fraction true (b - a) den) (fraction false (a - b) den))
    go true = round-correct true (b - a) den D
    go false = round-correct false (a - b) den D
sum-rounds true a false b den D = go (ltb a b) (ltb b a) refl refl
  where
    crossed : a < b → b < a → ⊥
    crossed x y = omega arith

    level : b ≤ a → a ≤ b → b - a ≡ a - b
    level x y = omega arith

    go : (x y : Bool) → ltb a b ≡ x → ltb b a ≡ y → Rounds (cond x (round binary64 false (b - a) den) (round binary64 (true && y) (a - b) den)) (cond y (fraction true (a - b) den) (fraction false (b - a) den))
    go true true p q = absurd (crossed (ltb-true a b p) (ltb-true b a q))
    go true false p q = round-correct false (b - a) den D
    go false true p q = round-correct true (a - b) den D
    go false false p q = subst (λ (n : ℕ). Rounded (round binary64 false n den) false (b - a) den) (level (ltb-false a b p) (ltb-false b a q)) (round-correct false (b - a) den D)

pub sum-once : (x y : Float) → Rounds (x ⊕ y) (exact_sum x y)
unfolding add
sum-once nan y = refl
sum-once (inf s) nan = refl
sum-once (inf true) (inf true) = refl
sum-once (inf true) (inf false) = refl
sum-once (inf false) (inf true) = refl
sum-once (inf false) (inf false) = refl
sum-once (inf s) (fin t n d) = refl
sum-once (fin s m e) nan = refl
sum-once (fin s m e) (inf t) = refl
sum-once (fin s m e) (fin t n d) = sum-rounds s (m * up e * down d) t (n * up d * down e) (down e * down d) (mul-pos (down_pos e) (down_pos d))

pub difference-once : (x y : Float) → Rounds (x ⊖ y) (exact_difference x y)
unfolding sub
difference-once x nan = sum-once x nan
difference-once x (inf t) = sum-once x (inf (not t))
difference-once x (fin t n d) = sum-once x (fin (not t) n d)

-- 0 times an infinity
zero-infinite : (s : Bool) (n : ℕ) → Rounds (cond (eqb n 0) nan (inf s)) (cond (eqb n 0) invalid (infinite s))
zero-infinite s n = go (eqb n 0)
  where
    go : (b : Bool) → Rounds (cond b nan (inf s)) (cond b invalid (infinite s))
    go true = refl
    go false = refl

pub product-once : (x y : Float) → Rounds (x ⊗ y) (exact_product x y)
unfolding mul
product-once nan y = refl
product-once (inf s) nan = refl
product-once (inf s) (inf t) = refl
product-once (inf s) (fin t n d) = zero-infinite (unlike s t) n
product-once (fin s m e) nan = refl
product-once (fin s m e) (inf t) = zero-infinite (unlike s t) m
product-once (fin s m e) (fin t n d) = round-correct (unlike s t) (m * up e * (n * up d)) (down e * down d) (mul-pos (down_pos e) (down_pos d))

-- a quotient of 0 over anything
zero-quotient : (s : Bool) → Rounded (fin s 0 (pos 0)) s 0 1
unfolding round
zero-quotient s = round-correct s 0 1 (lit< tt)

pub quotient-once : (x y : Float) → Rounds (x ⊘ y) (exact_quotient x y)
unfolding div
quotient-once nan y = refl
quotient-once (inf s) nan = refl
quotient-once (inf s) (inf t) = refl
quotient-once (inf s) (fin t n d) = refl
quotient-once (fin s m e) nan = refl
quotient-once (fin s m e) (inf t) = zero-quotient (unlike s t)
quotient-once (fin s m e) (fin t n d) = go (eqb n 0) refl
  where
    by_zero : (b : Bool) → Rounds (cond b nan (inf (unlike s t))) (cond b invalid (infinite (unlike s t)))
    by_zero true = refl
    by_zero false = refl

    above : (k : ℕ) → (k ≡ 0 → ⊥) → 0 < k
    above zero h = absurd (h refl)
    above (suc k) h = zero-lt-suc k

    go : (b : Bool) → eqb n 0 ≡ b → Rounds (cond b (cond (eqb m 0) nan (inf (unlike s t))) (round binary64 (unlike s t) (m * up e * down d) (n * up d * down e)))
        (cond b (cond (eqb m 0) invalid (infinite (unlike s t))) (fraction (unlike s t) (m * up e * down d) (n * up d * down e)))
    go true p = by_zero (eqb m 0)
    go false p = round-correct (unlike s t) (m * up e * down d) (n * up d * down e) (mul-pos (mul-pos (above n (eqb-false n 0 p)) (up_pos d)) (down_pos e))

pub integer-once : (z : ℤ) → Rounds (of_int binary64 z) (exact_integer z)
unfolding of_int
integer-once (pos n) = round-correct false n 1 (lit< tt)
integer-once (negsuc n) = round-correct true (suc n) 1 (lit< tt)
