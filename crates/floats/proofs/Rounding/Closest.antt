-- The kit's `closest a b` is the whole number nearest to a / b, and on a tie the even one: by how twice the remainder compares with b.
use Rattle.std.proofs.Common.{◌≡◌, ℕ, suc, ◌+◌, ◌*◌, ◌/◌, ◌%◌, ◌<◌, ◌≤◌, not, T, eqb, ◌⊎◌, sym, ◌∙◌, subst, inl, inr, mul-le-mul_right, mod-lt, suc-mul, div-add-mod', arith, eqb→eq, leb→le}
use Prim.Native.Nat.{compare, Ordering}
use native.Mathlib.Nat.{eq_of_mul-eq-mul_right}
use lib.Dec.{is_le, compare_is_eq, nleb→lt, eqb_refl}
use lib.Arith.{lt_of_le-ne}
use lib.Ieee.{nearest}
use lib.Ieee.Nearest.{closest}
use Rattle.std.proofs.lemmas.Bool.{cases_lt}
use Rattle.floats.specs.Rounding.{dist}

-- what `compare` says
abbrev Compared : Ordering → ℕ → ℕ → Type 0
Compared Ordering.lt a b = a < b
Compared Ordering.eq a b = a ≡ b
Compared Ordering.gt a b = b < a

compared : (a b : ℕ) → Compared (compare a b) a b
compared a b = go (compare a b) (leb→le a b) (nleb→lt a b) (eqb→eq a b) (λ (e : a ≡ b). subst (λ (x : ℕ). T (eqb a x)) e (eqb_refl a))
  where
    go : (o : Ordering) → (T (is_le o) → a ≤ b) → (T (not (is_le o)) → b < a) → (T (compare_is_eq o) → a ≡ b) → (a ≡ b → T (compare_is_eq o)) → Compared o a b
    go Ordering.lt le gt eq ne = lt_of_le-ne (le tt) ne
    go Ordering.eq le gt eq ne = eq tt
    go Ordering.gt le gt eq ne = gt tt

-- z * b is at most w * b, or at least the next multiple
data Multiple (z w b : ℕ) : Type 0 where
  low : z * b ≤ w * b → (z * b ≡ w * b → z ≡ w) → Multiple z w b
  high : w * b + b ≤ z * b → (z * b ≡ w * b + b → z ≡ suc w) → Multiple z w b

multiple : (z w b : ℕ) → 0 < b → Multiple z w b
multiple z w b B = elim (cases_lt w z) [
  | inl h ↦ high (subst (λ (x : ℕ). x ≤ z * b) (suc-mul w b) (mul-le-mul_right b h)) (λ e. eq_of_mul-eq-mul_right b B z (suc w) (e ∙ sym (suc-mul w b)))
  | inr h ↦ low (mul-le-mul_right b h) (λ e. eq_of_mul-eq-mul_right b B z w e)
]

-- w + w % 2 is w or the next number, and even
data Tie (w : ℕ) : Type 0 where
  stays : w + w % 2 ≡ w → w % 2 ≡ 0 → Tie w
  steps : w + w % 2 ≡ suc w → suc w % 2 ≡ 0 → Tie w

tie : (w : ℕ) → Tie w
tie w = elim (cases_lt (w % 2) 1) [ inl h ↦ stays (omega arith) (omega arith) | inr h ↦ steps (omega arith) (omega arith) ]

-- distances on plain numbers, with a = wb + r
module _ (a b r wb zb : ℕ) (e : wb + r ≡ a) (l : r < b) where
  lt-low : r * 2 < b → zb ≤ wb → dist wb a ≤ dist zb a
  lt-low o h = omega arith

  lt-high : r * 2 < b → wb + b ≤ zb → dist wb a < dist zb a
  lt-high o h = omega arith

  lt_same : zb ≤ wb → dist wb a ≡ dist zb a → zb ≡ wb
  lt_same h d = omega arith

  half-low : r * 2 ≡ b → zb ≤ wb → (dist wb a ≤ dist zb a) × (dist (wb + b) a ≤ dist zb a)
  half-low o h = (omega arith, omega arith)

  half_high : r * 2 ≡ b → wb + b ≤ zb → (dist wb a ≤ dist zb a) × (dist (wb + b) a ≤ dist zb a)
  half_high o h = (omega arith, omega arith)

  gt-low : b < r * 2 → zb ≤ wb → dist (wb + b) a < dist zb a
  gt-low o h = omega arith

  gt-high : b < r * 2 → wb + b ≤ zb → dist (wb + b) a ≤ dist zb a
  gt-high o h = omega arith

  gt-same : wb + b ≤ zb → dist (wb + b) a ≡ dist zb a → zb ≡ wb + b
  gt-same h d = omega arith

-- no z is nearer than c, and one as near is c itself, or c is even
pub record Best (a b c z : ℕ) : Type 0 where
  pub near : dist (c * b) a ≤ dist (z * b) a
  pub even : dist (c * b) a ≡ dist (z * b) a → (z ≡ c) ⊎ (c % 2 ≡ 0)

strictly : {a b c z : ℕ} → dist (c * b) a < dist (z * b) a → Best a b c z
strictly {a} {b} {c} {z} h = record { near = weaken _ _ h; even = λ d. absurd (apart _ _ h d) }
  where
    weaken : (x y : ℕ) → x < y → x ≤ y
    weaken x y l = omega arith

    apart : (x y : ℕ) → x < y → x ≡ y → ⊥
    apart x y l e = omega arith

pub closest-best : (a b z : ℕ) → 0 < b → Best a b (closest a b) z
closest-best a b z B = go (compare (a % b * 2) b) (compared (a % b * 2) b) (multiple z (a / b) b B)
  where
    e : a / b * b + a % b ≡ a
    e = div-add-mod' a b

    l : a % b < b
    l = mod-lt a B

    next : suc (a / b) * b ≡ a / b * b + b
    next = suc-mul (a / b) b

    half : a % b * 2 ≡ b → Multiple z (a / b) b → (dist (a / b * b) a ≤ dist (z * b) a) × (dist (a / b * b + b) a ≤ dist (z * b) a)
    half o (low h s) = half-low a b (a % b) (a / b * b) (z * b) e l o h
    half o (high h s) = half_high a b (a % b) (a / b * b) (z * b) e l o h

    go : (o : Ordering) → Compared o (a % b * 2) b → Multiple z (a / b) b → Best a b (nearest (a / b) o) z
    go Ordering.lt o (low h s) = record { near = lt-low a b (a % b) (a / b * b) (z * b) e l o h; even = λ d. inl (s (lt_same a b (a % b) (a / b * b) (z * b) e l h d)) }
    go Ordering.lt o (high h s) = strictly (lt-high a b (a % b) (a / b * b) (z * b) e l o h)
    go Ordering.eq o p =
        let g = half o p in
        elim (tie (a / b)) [
          | stays f m ↦ subst (λ (c : ℕ). Best a b c z) (sym f) (record { near = g.0; even = λ d. inr m })
          | steps f m ↦ subst (λ (c : ℕ). Best a b c z) (sym f) (record { near = rw next g.1; even = λ d. inr m })
        ]
    go Ordering.gt o (low h s) = strictly (rw next (gt-low a b (a % b) (a / b * b) (z * b) e l o h))
    go Ordering.gt o (high h s) = record {
      near = rw next (gt-high a b (a % b) (a / b * b) (z * b) e l o h);
      even = λ d. inl (s (gt-same a b (a % b) (a / b * b) (z * b) e l h (rw next at d)));
    }
