-- Digits put into a buffer from its end: those of the number that is left stand before them.
use Prim.Native.Nat.{ℕ, zero, suc, ◌+◌, ◌-◌, ◌/◌, ◌%◌, ◌^◌, ◌≤◌, ◌<◌}
use mathlib.Core.Path.{◌≡◌}
use mathlib.Core.Logic.{◌⊎◌, inl, inr}
use mathlib.Core.Bool.{false}
use mathlib.Core.List.{List, [], ◌∷◌, ◌++◌}
use native.Mathlib.Nat.{pow-le-pow_left}
use native.Mathlib.Omega.{arith}
use native.Mathlib.Numerals.{add-one}
use lib.Dec.{ltb}
use lib.ListN.{length, set, take, drop, length-set, length-drop}
use lib.Seq.{take_all}
use borrow.Author.Tests.{lt-ltb, le-ltb, le-leb}
use Rattle.std.proofs.Math.Bool.{and-false}
use Rattle.std.proofs.lemmas.Bool.{lt-leb}
use Rattle.std.proofs.lemmas.List.{drop-set, append_assoc}
use Rattle.text.specs.Numbers.{digit_byte, digits}
use Rattle.text.proofs.Numerals.{is_last, one-digit, quotient-below, digits_last}

-- 20 digits are enough
pub all_below : (base n : ℕ) → 10 ≤ base → n < 2 ^ 64 → n < base ^ 20
all_below base n h i = omega (arith, pow-le-pow_left h 20)

not_last : (base least n : ℕ) → (base ≤ n) ⊎ (1 < least) → is_last base least n ≡ false
not_last base least n (inl h) = rw (le-ltb n base h)
not_last base least n (inr h) = rw (lt-leb least 1 h) (and-false (ltb n base))

module _ (base : ℕ) (large : 10 ≤ base) (least n : ℕ) where
  pub place_left : (first : ℕ) → least ≤ first + 1 → n < base ^ (first + 1) → (base ≤ n) ⊎ (1 < least) → 0 < first
  place_left zero few h (inl l) = omega (arith, one-digit base (omega arith) n h)
  place_left zero few h (inr l) = absurd (omega arith)
  place_left (suc k) few h e = omega arith

  module _ (buffer : List ℕ) (size : length buffer ≡ 21) where
    pub last_digit : (first : ℕ) → first < 20 → n < base → least ≤ 1
        → digits first base least n ++ drop (first + 1) buffer ≡ take (21 - first) (drop first (set buffer first (digit_byte n)))
    last_digit first p h e =
        let whole : length (drop first (set buffer first (digit_byte n))) ≤ 21 - first =
        omega (arith, length-drop first (set buffer first (digit_byte n)), length-set buffer first (digit_byte n)) in
        rw (
          take_all (21 - first) (drop first (set buffer first (digit_byte n))) whole,
          digits_last base (omega arith) first least n (rw (lt-ltb n base h, le-leb least 1 e)),
          drop-set buffer first (digit_byte n) (omega arith),
        )

    pub digits-next : (first : ℕ) → first < 20 → least ≤ first + 1 → n < base ^ (first + 1) → (base ≤ n) ⊎ (1 < least)
        → (n / base < base ^ (first - 1 + 1))
        × (digits first base least n ++ drop (first + 1) buffer
        ≡ digits (first - 1) base (least - 1) (n / base) ++ drop (first - 1 + 1) (set buffer first (digit_byte (n % base))))
    unfolding digits
    digits-next zero p q h e = let left = place_left zero q h e in absurd (omega arith)
    digits-next (suc k) p q h e =
        let before : suc k - 1 ≡ k = omega arith in
        rw
        (before, add-one) (
          quotient-below base (omega arith) k n (rw add-one at h),
          rw
              (not_last base least n e, drop-set buffer (suc k) (digit_byte (n % base)) (omega arith))
              (append_assoc (digits k base (least - 1) (n / base)) (digit_byte (n % base) ∷ []) (drop (suc k + 1) buffer)),
        )
