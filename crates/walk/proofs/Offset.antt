-- The closed formula's offset: its bounds, and how it moves in one step.
use Rattle.std.proofs.Common.{◌≡◌, ℕ, zero, suc, ◌+◌, ◌-◌, ◌*◌, ◌<◌, ◌≤◌, sym, ◌∙◌, subst, inl, inr, zero-le, mul_assoc, mul_comm, add-mul, mul-le-mul_left, one-mul, zero-mul, mul-suc, div-mul-le_self, arith}
use native.Mathlib.Nat.{div-eq_of_lt-le, lt-div-mul-add, div-eq_of_lt, div-zero}
use Rattle.std.proofs.lemmas.Bool.{cases_lt}
use Rattle.walk.specs.Line.{offset_after}

pub offset-start : (long short : ℕ) → offset_after long short 0 ≡ 0
unfolding offset_after
offset-start zero short = div-zero _
offset-start (suc long) short = rw (zero-mul short) (div-eq_of_lt (omega arith))

module _ (long short : ℕ) (some : 0 < long) (low : short ≤ long) where
  twice : (o : ℕ) → o * (2 * long) ≡ 2 * (long * o)
  twice o = mul_comm o (2 * long) ∙ mul_assoc 2 long o

  twice-next : (o : ℕ) → (o + 1) * (2 * long) ≡ 2 * (long * o) + 2 * long
  twice-next o = add-mul o 1 (2 * long) ∙ rw (twice o, one-mul (2 * long))

  pub next : (k : ℕ) → (k + 1) * short ≡ k * short + short
  next k = add-mul k 1 short ∙ rw (one-mul short)

  -- the formula's own bounds
  pub offset-above : (k : ℕ) → 2 * (long * offset_after long short k) ≤ 2 * (k * short) + long - 1
  unfolding offset_after
  offset-above k = omega (arith, sym (twice (offset_after long short k)), div-mul-le_self (2 * (k * short) + long - 1) (2 * long))

  pub offset-below : (k : ℕ) → 2 * (k * short) + long - 1 < 2 * (long * offset_after long short k) + 2 * long
  unfolding offset_after
  offset-below k = omega (arith, twice (offset_after long short k), lt-div-mul-add {a = 2 * (k * short) + long - 1} {b = 2 * long} (omega arith))

  -- one step up, and one that keeps the offset
  pub offset-steps : (k o : ℕ) → o ≡ offset_after long short k → long + 2 * (long * o) < 2 * (k * short) + 2 * short → offset_after long short (k + 1) ≡ o + 1
  unfolding offset_after
  offset-steps k o e h =
      let b : 2 * (k * short) + long - 1 < 2 * (long * o) + 2 * long = rw e (offset-below k) in
      div-eq_of_lt-le (2 * long)
      (omega (arith, twice-next o, next k))
      (omega (arith, twice-next o, add-mul (o + 1) 1 (2 * long), one-mul (2 * long), next k))

  pub offset-stays : (k o : ℕ) → o ≡ offset_after long short k → 2 * (k * short) + 2 * short ≤ long + 2 * (long * o) → offset_after long short (k + 1) ≡ o
  unfolding offset_after
  offset-stays k o e h =
      let a : 2 * (long * o) ≤ 2 * (k * short) + long - 1 = rw e (offset-above k) in
      div-eq_of_lt-le (2 * long) (omega (arith, twice o, next k)) (omega (arith, twice-next o, next k))

  pub offset-end : offset_after long short long ≡ short
  unfolding offset_after
  offset-end = div-eq_of_lt-le (2 * long) (omega (arith, twice short)) (omega (arith, twice-next short))

-- a slope of one
pub offset-whole : (long k : ℕ) → k ≤ long → offset_after long long k ≡ k
unfolding offset_after
offset-whole zero k h = div-zero _ ∙ omega arith
offset-whole (suc l) k h = div-eq_of_lt-le (2 * suc l) (omega arith) (omega arith)

-- an offset is at most n where k steps of the line's slope reach no further
pub offset-le : (long short k n : ℕ) → short ≤ long → k * short ≤ long * n → offset_after long short k ≤ n
unfolding offset_after
offset-le zero short k n low h = rw (div-zero (2 * (k * short) + 0 - 1)) zero-le
offset-le (suc l) short k n low h = elim (cases_lt n (offset_after (suc l) short k)) [
  | inl g ↦ absurd (clash (suc l * n) (suc l * offset_after (suc l) short k) (k * short) l h (offset-above (suc l) short (omega arith) low k)
      (subst (λ (x : ℕ). x ≤ suc l * offset_after (suc l) short k) (mul-suc (suc l) n) (mul-le-mul_left (suc l) g)))
  | inr g ↦ g
]
  where
    clash : (ln lo ks l : ℕ) → ks ≤ ln → 2 * lo ≤ 2 * ks + suc l - 1 → ln + suc l ≤ lo → ⊥
    clash ln lo ks l h a g = omega arith
