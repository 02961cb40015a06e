-- No two patterns of a chart have one symbol: a decoding gives each symbol's pattern back, by one test over the whole chart. A scalar value fits 21 bits.
use mathlib.Core.Path.{◌≡◌, refl, sym, ap, ◌∙◌}
use mathlib.Core.Bool.{true, cond}
use mathlib.Core.List.{List, [], ◌∷◌}
use Prim.Native.Nat.{ℕ, suc, ◌+◌, ◌-◌, ◌%◌, ◌^◌, ◌<◌}
use native.Mathlib.Omega.{arith}
use native.Mathlib.Nat.{mod-eq_of_lt}
use lib.Dec.{eqb}
use Rattle.std.proofs.lemmas.Bool.{agree_below, agree_below_at}
use Rattle.std.proofs.lemmas.Bool.Decides.{nat_tests}
use borrow.Author.Tests.{eqb-true}
use Rattle.grids.specs.Markers.{is_scalar}
use Rattle.grids.specs.Symbols.{weigh, braille_symbol, quadrants, quadrant_symbol, one_above, sextant_symbol}

-- a chart that a decoding reads back below n has no symbol twice there
read_back : (chart decoded : ℕ → ℕ) (n : ℕ) → agree_below (λ p. eqb (decoded (chart p)) p) (λ p. true) n ≡ true → (p q : ℕ) → p < n → q < n → chart p ≡ chart q → p ≡ q
read_back chart decoded n all p q h k e = sym (back p h) ∙ ap decoded e ∙ back q k
  where
    back : (r : ℕ) → r < n → decoded (chart r) ≡ r
    back r l = eqb-true (decoded (chart r)) r (agree_below_at (λ p. eqb (decoded (chart p)) p) (λ p. true) n r all l)

-- ---- the charts
pub braille-differ : (p q : ℕ) → p < 256 → q < 256 → braille_symbol p ≡ braille_symbol q → p ≡ q
unfolding braille_symbol
braille-differ = read_back braille_symbol (λ s. weigh (1 ∷ 4 ∷ 16 ∷ 2 ∷ 8 ∷ 32 ∷ 64 ∷ 128 ∷ []) (s - 0x2800)) 256 refl

place_in : List ℕ → ℕ → ℕ
place_in [] s = 0
place_in (x ∷ xs) s = cond (eqb x s) 0 (suc (place_in xs s))

pub quadrant-differ : (p q : ℕ) → p < 16 → q < 16 → quadrant_symbol p ≡ quadrant_symbol q → p ≡ q
unfolding quadrant_symbol place_in
quadrant-differ = read_back quadrant_symbol (place_in quadrants) 16 refl

sextant_pattern : ℕ → ℕ
sextant_pattern s = cond (eqb s 0x258C) 21 (cond (eqb s 0x2590) 42 (cond (eqb s 0x2588) 63 (s - 0x1FAFF + one_above 20 (s - 0x1FAFF) + one_above 40 (s - 0x1FAFF))))

pub sextant-differ : (p q : ℕ) → 0 < p → p < 64 → 0 < q → q < 64 → sextant_symbol p ≡ sextant_symbol q → p ≡ q
unfolding sextant_symbol sextant_pattern
sextant-differ p q p-pos h q-pos k = read_back sextant_symbol sextant_pattern 64 refl p q h k

-- ---- a scalar value
pub scalar-kept : (c : ℕ) → is_scalar c ≡ true → c % 2 ^ 21 ≡ c
scalar-kept c h = mod-eq_of_lt (grind (arith, nat_tests))
