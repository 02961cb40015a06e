-- bit_or by the bits of its numbers; a pattern is below its table's length, stands where there is a dot, and its bits are the places of the dots.
use mathlib.Core.Path.{◌≡◌, refl, sym, ap₂, ◌∙◌}
use mathlib.Core.Bool.{Bool, true, false, cond, ◌||◌}
use mathlib.Core.List.{List, [], ◌∷◌}
use Prim.Native.Nat.{ℕ, ◌+◌, ◌*◌, ◌/◌, ◌%◌, ◌^◌, ◌<◌, max}
use native.Mathlib.Omega.{arith}
use native.Mathlib.Nat.{mul_comm, mod-lt}
use lib.Dec.{eqb}
use lib.Arith.{digits_lt}
use borrow.Author.Tests.{eqb-true, eqb-false}
use Rattle.std.specs.Int.{bit_at}
use Rattle.std.proofs.Common.{lt_of_lt_of_le}
use Rattle.std.proofs.lemmas.Nat.{le_or_l}
use Rattle.std.proofs.lemmas.Nat.Bits.{bit_at_or, bit_at-zero, bit_at-pow_same, bit_at-pow_other, same_from_bits}
use lib.Pow.{pow_pos, pow-lt}
use lib.Bits.{bit_or, or_lt}
use Rattle.grids.specs.declared.markers.Size.{Size}
use Rattle.grids.specs.Markers.{dot_size, dot_columns, dot_rows}
use Rattle.grids.specs.Symbols.{pattern_count}
use Rattle.grids.specs.Dots.{Inked, bit_of, pattern_of}
use Rattle.grids.specs.declared.markers.Marker.{Marker}
use Rattle.grids.specs.declared.markers.Marker.TheVariants.{Braille, Dot, Block, Bar, HalfBlock, Quadrant, Sextant, Custom}

abbrev pub any : {A : Type 0} → (A → Bool) → List A → Bool
any test [] = false
any test (x ∷ xs) = test x || any test xs

-- ---- bit_or
pub or_assoc : (a b c : ℕ) → bit_or (bit_or a b) c ≡ bit_or a (bit_or b c)
or_assoc a b c = same_from_bits (bit_or (bit_or a b) c) (bit_or a (bit_or b c)) (λ i. simp bit_at_or (omega arith))

-- ---- a pattern's size
abbrev HasDots : Size → Type 0
HasDots s = (0 < s.columns) × (0 < s.rows)

has-dots : (marker : Marker) → HasDots (dot_size marker)
has-dots Braille = (omega arith, omega arith)
has-dots Dot = (omega arith, omega arith)
has-dots Block = (omega arith, omega arith)
has-dots Bar = (omega arith, omega arith)
has-dots HalfBlock = (omega arith, omega arith)
has-dots Quadrant = (omega arith, omega arith)
has-dots Sextant = (omega arith, omega arith)
has-dots Custom = (omega arith, omega arith)

bit-lt : (marker : Marker) (column row : ℕ) → bit_of marker column row < pattern_count marker
unfolding bit_of pattern_count
bit-lt marker column row =
    rw (mul_comm (dot_columns marker) (dot_rows marker))
    (pow-lt (digits_lt (mod-lt row (has-dots marker).1) (mod-lt column (has-dots marker).0)))

pub pattern_lt : (marker : Marker) (dots : List Inked) → pattern_of marker dots < pattern_count marker
unfolding pattern_count
pattern_lt marker [] = pow_pos (dot_columns marker * dot_rows marker)
pattern_lt marker (d ∷ dots) =
    or_lt (dot_columns marker * dot_rows marker) (bit_of marker d.column d.row) (pattern_of marker dots) (bit-lt marker d.column d.row) (pattern_lt marker dots)

pub pattern-pos : (marker : Marker) (d : Inked) (dots : List Inked) → 0 < pattern_of marker (d ∷ dots)
unfolding bit_of
pattern-pos marker d dots = lt_of_lt_of_le (pow_pos _) (le_or_l (bit_of marker d.column d.row) (pattern_of marker dots))

-- ---- a pattern's bits
bit-pow : (k q : ℕ) → bit_at (2 ^ q) k ≡ cond (eqb q k) 1 0
bit-pow k q = go (eqb q k) refl
  where
    go : (t : Bool) → eqb q k ≡ t → bit_at (2 ^ q) k ≡ cond t 1 0
    go true e = rw (eqb-true q k e) (bit_at-pow_same k)
    go false e = bit_at-pow_other q k (λ h. eqb-false q k e (sym h))

abbrev place_of : Marker → Inked → ℕ
place_of marker d = d.row % dot_rows marker * dot_columns marker + d.column % dot_columns marker

pub pattern-bit : (marker : Marker) (dots : List Inked) (k : ℕ) → (pattern_of marker dots / 2 ^ k) % 2 ≡ cond (any (λ d. eqb (d.row % dot_rows marker * dot_columns marker + d.column % dot_columns marker) k) dots) 1 0
unfolding bit_of
pattern-bit marker [] k = bit_at-zero k
pattern-bit marker (d ∷ dots) k =
    bit_at_or (bit_of marker d.column d.row) (pattern_of marker dots) k
    ∙ ap₂ max (bit-pow k (place_of marker d)) (pattern-bit marker dots k)
    ∙ go (eqb (place_of marker d) k) (any (λ e. eqb (place_of marker e) k) dots)
  where
    go : (a b : Bool) → max (cond a 1 0) (cond b 1 0) ≡ cond (a || b) 1 0
    go true true = refl
    go true false = refl
    go false true = refl
    go false false = refl
